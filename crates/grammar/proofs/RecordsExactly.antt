-- What reading a record answers, by the grammar: the crate's headline theorems.
--
--   record_exactly      == bytes are read as the record p exactly where they begin with a record whose places and parts are p's
--   chunked_exactly     == 14 exactly where the first byte has the chunk flag
--   truncated_exactly   == 13 exactly where it has not, and the bytes begin with no record
--   chunked-read, truncated-read   == the same, as the answers
--   unambiguous         == two records that the same bytes begin with have the same format, last flag and parts
--   is_exactly          == a record is of a well-known type exactly where its format is 1 and its type name is that one byte
use mathlib.Core.Path.{◌≡◌, refl, ap, ap₂, sym, ◌∙◌}
use mathlib.Core.Bool.{Bool, true, false}
use mathlib.Core.List.{List, [], ◌∷◌, ◌++◌}
use mathlib.Core.Logic.{◌↔◌}
use Prim.Native.Nat.{ℕ, ◌+◌}
use native.Mathlib.Omega.{arith}
use borrow.Author.Tests.{eqb-true, eq-eqb}
use lib.ListN.{length, get_or}
use lib.Dec.{ltb, eqb}
use Rattle.std.specs.Prelude.{Result, Ok, Err}
use Rattle.slices.specs.Pick.{pick}
use Rattle.slices.proofs.Cases.{pick_cases}
use Rattle.layout.specs.Record.{Fields, record_bytes}
use Rattle.records.specs.declared.Record.{Record}
use Rattle.records.specs.declared.Malformed.{Malformed}
use Rattle.records.specs.declared.Malformed.TheVariants.{Truncated, Chunked}
use Rattle.heads.specs.Heads.{flag, head_len, id_len, payload_len}
use Rattle.records.specs.Parse.{whole_of, parse_of, number_of}
use Rattle.pieces.specs.Parts.{kind_of, id_of, payload_of, one_byte, is_of}
use Rattle.grammar.specs.Records.{Bytes, Begins, RecordAt, places_of}
use Rattle.grammar.proofs.RecordsComplete.{complete, kind_there, id_there, payload_there}
use Rattle.grammar.proofs.RecordsSound.{sound}

read_of : (s : List ℕ) (r : Fields) (rest : List ℕ) → Begins s r rest → parse_of s ≡ Ok (places_of r)
read_of s r rest b = ap parse_of b.bytes ∙ complete r rest b.allowed

pub record_exactly : (s : List ℕ) (p : Record) → Bytes s → (parse_of s ≡ Ok p) ↔ RecordAt s p
record_exactly s p bytes = (sound s bytes, λ a. read_of s a.fields a.rest a.begins ∙ ap Ok (sym a.places))

abbrev Flagged : List ℕ → Result Record Malformed → Type 0
Flagged s q = number_of q ≡ 14 → flag 0x20 (get_or s 0 0) ≡ true

flagged : (s : List ℕ) → Flagged s (parse_of s)
unfolding parse_of whole_of
flagged s =
    pick_cases (Flagged s) (flag 0x20 (get_or s 0 0)) (λ e _. e) (λ _.
    pick_cases (Flagged s) (ltb (length s) (head_len (get_or s 0 0))) (λ _ n. absurd (omega arith)) (λ _.
    pick_cases (Flagged s) (ltb (length s) (head_len (get_or s 0 0) + get_or s 1 0 + id_len s + payload_len s)) (λ _ n. absurd (omega arith))
    (λ _ n. absurd (omega arith))))

pub chunked_exactly : (s : List ℕ) → (number_of (parse_of s) ≡ 14) ↔ (flag 0x20 (get_or s 0 0) ≡ true)
unfolding parse_of
chunked_exactly s = (flagged s, λ e. rw e)

pub truncated_exactly : (s : List ℕ) → Bytes s
    → (number_of (parse_of s) ≡ 13) ↔ ((flag 0x20 (get_or s 0 0) ≡ false) × ((r : Fields) (rest : List ℕ) → Begins s r rest → ⊥))
truncated_exactly s bytes = (
  (λ n. (unflagged (flag 0x20 (get_or s 0 0)) refl n, λ r rest b. let e = ap number_of (read_of s r rest b) in omega arith)),
  λ h. refused (parse_of s) refl h.0 h.1,
)
  where
    unflagged : (b : Bool) → flag 0x20 (get_or s 0 0) ≡ b → number_of (parse_of s) ≡ 13 → b ≡ false
    unflagged true e n = let c = (chunked_exactly s).1 e in absurd (omega arith)
    unflagged false e n = refl

    refused : (q : Result Record Malformed) → parse_of s ≡ q → flag 0x20 (get_or s 0 0) ≡ false → ((r : Fields) (rest : List ℕ) → Begins s r rest → ⊥) → number_of q ≡ 13
    refused (Ok p) e f none = let a = sound s bytes e in absurd (none a.fields a.rest a.begins)
    refused (Err Truncated) e f none = refl
    refused (Err Chunked) e f none =
        let t : flag 0x20 (get_or s 0 0) ≡ true = (chunked_exactly s).0 (ap number_of e) in
        let z : ◌≡◌ {A = ℕ} 0 1 = cc in absurd (omega arith)

-- a refusal, by its number
refusal : ℕ → Result Record Malformed
refusal n = pick (eqb n 14) (Err Chunked) (Err Truncated)

told : (q : Result Record Malformed) {n : ℕ} → number_of q ≡ n → (n ≡ 0 → ⊥) → q ≡ refusal n
unfolding refusal
told (Ok p) e z = absurd (z (sym e))
told (Err Truncated) e z = ap refusal e
told (Err Chunked) e z = ap refusal e

pub chunked-read : (s : List ℕ) → flag 0x20 (get_or s 0 0) ≡ true → parse_of s ≡ Err Chunked
unfolding refusal
chunked-read s e = told (parse_of s) ((chunked_exactly s).1 e) (λ z. omega arith)

pub truncated-read : (s : List ℕ) → Bytes s → flag 0x20 (get_or s 0 0) ≡ false → ((r : Fields) (rest : List ℕ) → Begins s r rest → ⊥)
    → parse_of s ≡ Err Truncated
unfolding refusal
truncated-read s bytes e none = told (parse_of s) ((truncated_exactly s bytes).1 (e, none)) (λ z. omega arith)

pub record Same (r q : Fields) : Type 0 where
  pub format : r.format ≡ q.format
  pub last : r.last ≡ q.last
  pub kind : r.kind ≡ q.kind
  pub id : r.id ≡ q.id
  pub payload : r.payload ≡ q.payload

pub unambiguous : (s : List ℕ) (r q : Fields) (t u : List ℕ) → Begins s r t → Begins s q u → Same r q
unambiguous s r q t u b c =
    let e : places_of r ≡ places_of q = cc (read_of s r t b, read_of s q u c) in
    let d : record_bytes r ++ t ≡ record_bytes q ++ u = sym b.bytes ∙ c.bytes in
    record {
      format = ap (λ (p : Record). p.format) e;
      last = ap (λ (p : Record). p.last) e;
      kind = sym (kind_there r t) ∙ ap₂ kind_of d e ∙ kind_there q u;
      id = sym (id_there r t) ∙ ap₂ id_of d e ∙ id_there q u;
      payload = sym (payload_there r t) ∙ ap₂ payload_of d e ∙ payload_there q u;
    }

one_byte_lem : (s : List ℕ) (b : ℕ) → (one_byte s b ≡ true) ↔ (s ≡ b ∷ [])
one_byte_lem [] b = ((λ e. let z : ◌≡◌ {A = ℕ} 0 1 = cc in absurd (omega arith)), λ e. let z : ◌≡◌ {A = ℕ} 0 1 = cc in absurd (omega arith))
one_byte_lem (x ∷ []) b = ((λ e. ap (λ (n : ℕ). n ∷ []) (eqb-true _ _ e)), λ e. let h : x ≡ b = cc in eq-eqb _ _ h)
one_byte_lem (x ∷ y ∷ s) b = ((λ e. let z : ◌≡◌ {A = ℕ} 0 1 = cc in absurd (omega arith)), λ e. let z : ◌≡◌ {A = ℕ} 0 1 = cc in absurd (omega arith))

pub is_exactly : (s : List ℕ) (r : Record) (name : ℕ) → (is_of s r name ≡ true) ↔ ((r.format ≡ 1) × (kind_of s r ≡ name ∷ []))
unfolding is_of
is_exactly s r name =
    (by-format (eqb r.format 1) refl, λ h. rw (eq-eqb _ _ h.0) ((one_byte_lem (kind_of s r) name).1 h.1))
  where
    by-format : (b : Bool) → eqb r.format 1 ≡ b → pick b (one_byte (kind_of s r) name) false ≡ true
        → (r.format ≡ 1) × (kind_of s r ≡ name ∷ [])
    by-format true e t = (eqb-true _ _ e, (one_byte_lem (kind_of s r) name).0 t)
    by-format false e t = let z : ◌≡◌ {A = ℕ} 0 1 = cc in absurd (omega arith)
