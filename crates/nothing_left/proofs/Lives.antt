-- What no transfer, no phone and no cut can spoil.
--
--   Intact p      == the part is identified, and its memory is of its size
use mathlib.Core.Path.{◌≡◌, refl, ◌∙◌}
use mathlib.Core.List.{List, [], ◌∷◌, ◌++◌}
use Prim.Native.Nat.{ℕ, zero, suc, ◌+◌, ◌-◌, ◌*◌}
use native.Mathlib.Omega.{arith}
use lib.ListN.{length, get_or, take, drop, length-drop}
use lib.Seq.{get_or-take}
use borrow.Author.Tests.{eq-eqb}
use Rattle.slices.proofs.Cases.{pick_cases}
use Rattle.slices.proofs.Truths.{and_right}
use Rattle.protocol.specs.Transfer.{Transfer, write, write_read, delay}
use Rattle.protocol.specs.Proc.{Proc, done, ask, mark}
use Rattle.part.specs.Part.{Part, ThePart, free}
use Rattle.part.specs.Orders.{order_of, accepted}
use Rattle.part.specs.Bus.{reply_of, after_of}
use Rattle.part.specs.Power.{visited}
use Rattle.part.proofs.Stays.{stored-length, stays, stays_visited, stays_cut}
use Rattle.nothing_left.specs.Trees.{tree_of}
use Rattle.nothing_left.specs.Runs.{Moments, onwards, begun, part_after}
use Rattle.nothing_left.specs.Histories.{Event, calls, phones, cuts, happened, lived, PowerUp, up}
use Rattle.nothing_left.proofs.Worlds.{Named}

pub record Intact (p : Part) : Type 0 where
  pub len : length p.memory ≡ 8192
  pub named : Named p

pub intact_part : (p : Part) → ThePart p → Intact p
intact_part p t = record {
  len = t.bytes;
  named =
      let low : get_or (take 12 p.identity) 0 0 ≡ get_or p.identity 0 0 = get_or-take 12 p.identity 0 0 (omega arith) in
      let high : get_or (take 12 p.identity) 1 0 ≡ get_or p.identity 1 0 = get_or-take 12 p.identity 1 0 (omega arith) in
      let last : get_or (take 12 p.identity) 11 0 ≡ get_or p.identity 11 0 = get_or-take 12 p.identity 11 0 (omega arith) in
      rw (eq-eqb (get_or (take 12 p.identity) 11 0) 0xE0 (last ∙ t.uid))
      (eq-eqb ((get_or (take 12 p.identity) 0 0 + 256 * get_or (take 12 p.identity) 1 0 + 1) * 4) 8192 (let s = t.size in omega arith));
}

-- no transfer spoils either
pub intact_after : (t : Transfer) (c : ℕ) (p : Part) → Intact p → Intact (after_of t c p)
intact_after (write dev head payload) c p i = record {
  named = i.named;
  len = pick_cases (λ (M : List ℕ). length M ≡ 8192) (accepted dev (head ++ payload) p.registers)
      (λ e. stored-length (order_of dev (head ++ payload)) (drop 2 (head ++ payload)) p.memory (length (head ++ payload) - 2) p.registers
      (length-drop 2 (head ++ payload)) (and_right (free p.registers) _ e) i.len) (λ _. i.len);
}
intact_after (write_read dev head n) c p i = record { len = i.len; named = i.named }
intact_after (delay ms) c p i = record { len = i.len; named = i.named }

-- and the part stays the one of document 01
stays_begun : (n : ℕ) (p : Part) (more : ℕ → Part) → ThePart p → ((j : ℕ) → ThePart (more j)) → ThePart (begun n p more)
stays_begun zero p more i j = i
stays_begun (suc n) p more i j = j n

stays_run : {A : Type 0} (q : Proc A) (n : ℕ) (p : Part) (w : Moments) → ThePart p → ThePart (part_after n q p w)
stays_run (done a) n p w i = i
stays_run (ask t k) n p w i =
    let v = visited (w 0).phone p in
    stays_begun n p _ i (λ j. stays_run (k (reply_of t v)) j (after_of t (w 0).cycle v) (onwards w) (stays t (w 0).cycle v (stays_visited (w 0).phone p i)))
stays_run (mark m q) n p w i = stays_run q n p w i

stays_event : (e : Event) (p : Part) → ThePart p → ThePart (happened tree_of e p)
stays_event (calls c m n w) p i = stays_run (tree_of c m) n p w i
stays_event (phones v) p i = stays_visited v p i
stays_event (cuts l) p i = stays_cut l p i

stays_lived : (es : List Event) (p : Part) → ThePart p → ThePart (lived tree_of es p)
stays_lived [] p i = i
stays_lived (e ∷ es) p i = stays_lived es (happened tree_of e p) (stays_event e p i)

-- a part at power-up: whole, and no cycle runs
pub powered-up : (p : Part) → PowerUp p → Intact p × (p.registers.busy ≡ 0)
powered-up p (up {p = q} t es l) = (intact_part p (stays_cut l (lived tree_of es q) (stays_lived es q t)), refl)
