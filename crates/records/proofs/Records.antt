-- What a parsed record says is there.
--
--   record_there   == a record that is parsed ends inside the bytes, and takes some of them
--   none           == no bytes are a record cut short
--   more_follow    == a plain record is not the last
--   short_way      == a plain record's head takes three bytes, and the payload's length is the third
use mathlib.Core.Path.{◌≡◌, subst}
use mathlib.Core.Bool.{false}
use mathlib.Core.List.{List}
use Prim.Native.Nat.{ℕ, ◌+◌, ◌/◌, ◌%◌, ◌≤◌, ◌<◌}
use native.Mathlib.Omega.{arith}
use borrow.Author.Tests.{ltb-false, le-ltb}
use lib.ListN.{length, get_or, get_or-eq_default}
use lib.Dec.{ltb}
use Rattle.std.specs.Prelude.{Result, Ok, Err}
use Rattle.slices.proofs.Cases.{pick_cases}
use Rattle.records.specs.declared.Record.{Record}
use Rattle.records.specs.declared.Malformed.{Malformed}
use Rattle.records.specs.declared.Malformed.TheVariants.{Truncated}
use Rattle.heads.specs.Heads.{flag, head_len, id_len, payload_len}
use Rattle.records.specs.Parse.{inside, whole_of, parse_of, end_of}
use Rattle.records.specs.Plain.{Plain, PlainOf}
use Rattle.heads.proofs.Heads.{head_at, head_least, short_no_id}

abbrev Sound : List ℕ → Result Record Malformed → Type 0
Sound s (Ok r) = (2 < end_of r) × (end_of r ≤ length s)
Sound s (Err why) = Unit {0}

whole-sound : (s : List ℕ) (h k i p : ℕ) → 3 ≤ k → Sound s (whole_of s h k i p)
unfolding whole_of
whole-sound s h k i p l =
    pick_cases (Sound s) (ltb (length s) (k + get_or s 1 0 + i + p)) (λ _. tt) (λ e.
    let m : k + get_or s 1 0 + i + p ≤ length s = ltb-false _ _ e in (omega arith, m))

sound : (s : List ℕ) → Sound s (parse_of s)
unfolding parse_of
sound s =
    pick_cases (Sound s) (flag 0x20 (get_or s 0 0)) (λ _. tt) (λ _.
    pick_cases (Sound s) (ltb (length s) (head_len (get_or s 0 0))) (λ _. tt) (λ _.
    whole-sound s (get_or s 0 0) (head_len (get_or s 0 0)) (id_len s) (payload_len s) (head_least (get_or s 0 0))))

pub record_there : (s : List ℕ) {r : Record} → parse_of s ≡ Ok r → (2 < end_of r) × (end_of r ≤ length s)
record_there s e = subst (Sound s) e (sound s)

pub none : (s : List ℕ) → length s ≡ 0 → Err Truncated ≡ parse_of s
unfolding parse_of head_len
none s e = rw (get_or-eq_default s 0 {n = 0} (omega arith), e)

more_follow : (s : List ℕ) → Plain s → flag 0x40 (get_or s 0 0) ≡ false
more_follow s h =
    let z : get_or s 0 0 / 64 % 2 ≡ 0 = omega (arith, h.1) in
    rw z

-- a plain record's places, by its header and its two lengths
abbrev plain_of : ℕ → ℕ → ℕ → Record
plain_of h k p = record { format = h % 8; last = false; kind = 3; kind_len = k; id_len = 0; payload_len = p }

pub short_way : (s : List ℕ) {k p : ℕ} → PlainOf s k p → inside s (plain_of (get_or s 0 0) k p) ≡ parse_of s
unfolding parse_of id_len payload_len whole_of
short_way s {k} {p} h =
    let f = short_no_id (get_or s 0 0) (omega (arith, h.0.1)) in
    let z : get_or s 0 0 / 32 % 2 ≡ 0 = omega (arith, h.0.1) in
    let chunk : flag 0x20 (get_or s 0 0) ≡ false = rw z in
    let n : head_len (get_or s 0 0) ≡ 3 = head_at (get_or s 0 0) f.0 f.1 in
    let last = more_follow s h.0 in
    simp (h.1.0, h.1.1, chunk, n, last, le-ltb _ _ h.0.0, f.0, f.1)
