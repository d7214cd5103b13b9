use mathlib.Core.Path.{◌≡◌, ap}
use mathlib.Core.List.{List, ◌∷◌, [], ◌++◌}
use Prim.Native.Nat.{ℕ, ◌+◌}
use lib.ListN.{length}
use Rattle.slices.specs.Pick.{pick}
use Rattle.slices.proofs.Splice.{chain}
use Rattle.pieces.specs.Parts.{kind_of}
use Rattle.digits.specs.Text.{decimal, type_word}
use Rattle.listing.proofs.Lines.{record_length, record_pieces, head-length}
use Rattle.digits.proofs.Writes.{wrote_as, word_place}
use native.Mathlib.Omega.{arith}
use Rattle.listing.proofs.put_record.Goals as goal

pub put_head-a-requires : goal.put_head-a-requires
put_head-a-requires c = omega (arith, record_length c.args.number c.args.r c.args.image.now)

pub put_type-b-requires : goal.put_type-b-requires
put_type-b-requires c = let k = ap (λ (s : List ℕ). length (type_word s)) c.kind.ensures in
    omega (
      arith,
      (let it : c.put_head-a.result ≡ c.args.at + (length (decimal c.args.number) + length (decimal c.args.r.format) + length (decimal (pick c.args.r.last 1 0)) + 3) = let a = c.args in
          omega (arith, c.put_head-a.ensures.place, head-length (decimal a.number) (decimal a.r.format) (decimal (pick a.r.last 1 0))) in it),
      record_length c.args.number c.args.r c.args.image.now,
    )

pub put_number-c-requires : goal.put_number-c-requires
put_number-c-requires c = omega (
  arith,
  (let it : c.put_head-a.result ≡ c.args.at + (length (decimal c.args.number) + length (decimal c.args.r.format) + length (decimal (pick c.args.r.last 1 0)) + 3) = let a = c.args in
      omega (arith, c.put_head-a.ensures.place, head-length (decimal a.number) (decimal a.r.format) (decimal (pick a.r.last 1 0))) in it),
  (let it : c.put_type-b.result ≡ c.put_head-a.result + length (type_word (kind_of c.args.image.now c.args.r)) + 1 = let k = ap (λ (s : List ℕ). length (type_word s)) c.kind.ensures in
      omega (arith, word_place (type_word c.kind.result.now) 0x20 c.put_type-b.ensures) in it),
  record_length c.args.number c.args.r c.args.image.now,
)

pub put_number-requires : goal.put_number-requires
put_number-requires c = let i = word_place (decimal c.args.r.id_len) 0x20 c.put_number-c.ensures in
    omega (
      arith,
      (let it : c.put_head-a.result ≡ c.args.at + (length (decimal c.args.number) + length (decimal c.args.r.format) + length (decimal (pick c.args.r.last 1 0)) + 3) = let a = c.args in
          omega (arith, c.put_head-a.ensures.place, head-length (decimal a.number) (decimal a.r.format) (decimal (pick a.r.last 1 0))) in it),
      (let it : c.put_type-b.result ≡ c.put_head-a.result + length (type_word (kind_of c.args.image.now c.args.r)) + 1 = let k = ap (λ (s : List ℕ). length (type_word s)) c.kind.ensures in
          omega (arith, word_place (type_word c.kind.result.now) 0x20 c.put_type-b.ensures) in it),
      record_length c.args.number c.args.r c.args.image.now,
    )

pub returns : goal.returns
returns c = let a = c.args in
    let h = (let it : c.put_head-a.result ≡ c.args.at + (length (decimal c.args.number) + length (decimal c.args.r.format) + length (decimal (pick c.args.r.last 1 0)) + 3) = let a = c.args in
    omega (arith, c.put_head-a.ensures.place, head-length (decimal a.number) (decimal a.r.format) (decimal (pick a.r.last 1 0))) in it) in
    let t = (let it : c.put_type-b.result ≡ c.put_head-a.result + length (type_word (kind_of c.args.image.now c.args.r)) + 1 = let k = ap (λ (s : List ℕ). length (type_word s)) c.kind.ensures in
    omega (arith, word_place (type_word c.kind.result.now) 0x20 c.put_type-b.ensures) in it) in
    let i = word_place (decimal a.r.id_len) 0x20 c.put_number-c.ensures in
    let l = record_length a.number a.r a.image.now in
    let kind = wrote_as (ap (λ (s : List ℕ). type_word s ++ (0x20 ∷ [])) c.kind.ensures) c.put_type-b.ensures in
    wrote_as (record_pieces a.number a.r a.image.now)
    (chain (omega arith) (chain (omega arith) (chain (omega arith) c.put_head-a.ensures kind) c.put_number-c.ensures) c.put_number.ensures)
