-- The wipe programs exactly the rows that are not zero.
use mathlib.Core.Path.{◌≡◌, refl, ap, sym, ◌∙◌}
use mathlib.Core.Bool.{Bool, true, false, ◌&&◌}
use mathlib.Core.Logic.{inr}
use mathlib.Core.List.{List, [], ◌∷◌, ◌++◌, append-nil}
use Prim.Native.Nat.{ℕ, ◌+◌, ◌/◌}
use native.Mathlib.Omega.{arith}
use native.Mathlib.Nat.{zero-add}
use lib.ListN.{length}
use borrow.Author.Tests.{eqb-false}
use Rattle.std.specs.Prelude.{Result, Ok}
use Rattle.slices.specs.Pick.{pick}
use Rattle.protocol.specs.Transfer.{sent, is_row, place_of}
use Rattle.protocol.specs.Tag.{user, user_memory}
use Rattle.protocol.specs.Mark.{Mark, none, wipe_end}
use Rattle.protocol.specs.Proc.{done}
use Rattle.protocol.specs.Call.{scrub}
use Rattle.protocol.specs.Scrub as s
use Rattle.protocol.specs.Calls.{plain}
use Rattle.protocol.specs.Trace.{Exchange, trace, rows_in, nothing}
use Rattle.protocol.specs.declared.answer.TagError.{TagError}
use Rattle.protocol.specs.declared.answer.Answer.{Answer}
use Rattle.protocol.specs.declared.answer.Answer.TheVariants.{Done}
use Rattle.protocol.proofs.Runs as runs
use Rattle.part.specs.Part.{Part, rf_on}
use Rattle.nothing_left.specs.Trees.{tree_of}
use Rattle.nothing_left.specs.Runs.{Moments, replies, run_by, run}
use Rattle.nothing_left.specs.Rows.{programmed, non_zero_rows, Exact}
use Rattle.nothing_left.proofs.Always.{Phone, always, phones-run, always_done, always_bind, onto}
use Rattle.nothing_left.proofs.Memories.{Wiped}
use Rattle.nothing_left.proofs.Worlds.{Mute, mute_room}
use Rattle.nothing_left.proofs.Chunks.{wipes}

-- turned round twice
onto-onto : (xs R S : List ℕ) → onto (onto xs R) S ≡ onto R (xs ++ S)
onto-onto [] R S = refl
onto-onto (x ∷ xs) R S = onto-onto xs (x ∷ R) S

onto_same : (xs ys : List ℕ) → onto xs [] ≡ onto ys [] → xs ≡ ys
onto_same xs ys e = sym (append-nil xs) ∙ sym (onto-onto xs [] []) ∙ ap (λ (l : List ℕ). onto l []) e ∙ onto-onto ys [] [] ∙ append-nil ys

-- the rows that are reported are as many
rows-length : (es : List Exchange) → rows_in es ≡ length (programmed es)
rows-length [] = refl
rows-length (e ∷ es) = go (is_row user user_memory e.transfer && e.reply.ack) (rows-length es)
  where
    go : (b : Bool) → rows_in es ≡ length (programmed es) → pick b 1 0 + rows_in es ≡ length (pick b (place_of (sent e.transfer) ∷ []) [] ++ programmed es)
    go true h = omega arith
    go false h = omega arith

-- how the wipe of p ends
record Swept (m : Mark) (p : Part) (n : Mark) (R : List ℕ) (x : Part) : Type 0 where
  mark : n ≡ none
  rows : R ≡ onto (non_zero_rows (wipe_end m / 16) 0 p.memory) []
  wiped : Wiped 0 (wipe_end m) p.memory x.memory

abbrev Sweeps : Mark → Part → Result Answer TagError → Mark → List ℕ → Part → Type 0
Sweeps m p a n R x = (a ≡ Ok Done) × Swept m p n R x

pub wipe_exact : (p : Part) → length p.memory ≡ 8192 → rf_on p.registers ≡ false → p.registers.busy ≡ 0 → (m : Mark) (w : Moments) → Exact m p (run scrub m p w)
unfolding run_by s.scrub
wipe_exact p size off idle m w =
    let h : always Phone (tree_of scrub m) (Sweeps m p) m [] p =
    always_bind Phone (s.scrub m) (λ r. done (plain r)) (Sweeps m p) m [] p
    (wipes Phone Mute mute_room (λ a n R x. always Phone (done (plain a)) (Sweeps m p) n R x) m m [] p.memory size
    (λ x N i v u. always_done Phone (Ok Done) (Sweeps m p) none _ x
    (refl, record { mark = refl; rows = refl; wiped = rw i.memory v }))
    p (record { off = eqb-false p.registers.rf 0 off; memory = refl }) idle) in
    let k = phones-run (tree_of scrub m) (Sweeps m p) m [] p w h in
    let ρ = replies (tree_of scrub m) p w in
    let e = runs.seen (tree_of scrub m) m nothing ρ in
    let c : programmed (trace (tree_of scrub m) ρ) ≡ non_zero_rows (wipe_end m / 16) 0 p.memory = onto_same _ _ k.1.rows in
    record {
      answer = ap (λ x. x.answer) e ∙ k.0;
      mark = ap (λ x. x.mark) e ∙ k.1.mark;
      rows = c;
      report = ap (λ x. x.report.rows) e ∙ runs.rows-counted (trace (tree_of scrub m) ρ) nothing ∙ zero-add (rows_in (trace (tree_of scrub m) ρ)) ∙ rows-length (trace (tree_of scrub m) ρ) ∙ ap length c;
      below = λ i h. k.1.wiped.zeros i (omega arith) h;
      above = λ i h. k.1.wiped.changed.outside i (inr h);
    }
