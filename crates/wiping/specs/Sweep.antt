-- A wipe's read of a clean chunk, on the bytes of its state. On a clean tile nearly every step is one. From no public document: the way of
-- docs/DECISIONS.md, 50. `Clean` says that it leaves what a reply leaves (telling/specs/Left).
--
--   Whole p               == the chunk p has all its 64 bytes before the end of the wipe
--   After p q             == the chunk q is the one after p in its wipe: 64 bytes on, and one fewer comes after it
--   Passes m rows p got x == where x is a chunk: it comes after p, is whole, and a wipe that reads p goes on to read it, as `Onto` says
--   head_of f              == the first eight bytes of the numbers f, its tags and the row, as one number
--   chunk_bytes p          == four bytes of the state: the chunks left after p, and where p is
--   swept l p             == the state's bytes l, with those of p in them
--   swept_left l p t r     == what a step leaves that goes on to read the chunk p
--   Follows l p           == the chunk p is whole, and the one after that which the state's bytes l are at
--   Clean l r x           == where x is a chunk: it follows, and an acknowledge that lends no data and no `out` leaves that
use Rattle.std.specs.Prelude.{◌≡◌, true, false, not, List, [], ◌∷◌, ◌++◌, ℕ, ◌+◌, ◌*◌, ◌/◌, ◌%◌, ◌≤◌, eqb, length, drop, Option, Some, None}
use Rattle.slices.specs.Bytes.{splice}
use Rattle.protocol.specs.Transfer.{sent}
use Rattle.machine.specs.Ask.{meant}
use Rattle.wipe.specs.Scrub.{scrub_ask}
use Rattle.wipe.specs.declared.scrub.Chunk.{Chunk}
use Rattle.wipe.specs.declared.scrub.Scrub.TheVariants.{Read}
use Rattle.telling.specs.Step.{transfer_step, padded}
use Rattle.telling.specs.Left.{Left, reply_left}
use Rattle.numbers.specs.declared.flat.Flat.{Flat}
use Rattle.state.specs.Bytes.{two_at}
use Rattle.wiping.specs.Onward.{Onto}

abbrev pub Whole : Chunk → Type 0
Whole p = p.at + 64 ≤ p.end

abbrev pub After : Chunk → Chunk → Type 0
After p q = (p.left ≡ q.left + 1) × (p.at + 64 ≡ q.at) × (q.end ≡ p.end)

abbrev pub Passes : ℕ → ℕ → Chunk → List ℕ → Option Chunk → Type 0
Passes m rows p got (Some q) = (After p q) × Whole q × Onto m rows (Read p) got rows (Read q)
Passes m rows p got None = Unit

abbrev pub head_of : Flat → ℕ
head_of f =
    f.stage + 256 * f.code.phase + 65536 * f.code.inner + 16777216 * f.code.which
    + 4294967296 * (f.code.count + 256 * f.place.bits + 65536 * f.place.row)

abbrev pub chunk_bytes : Chunk → List ℕ
chunk_bytes p = p.left % 256 ∷ p.left / 256 % 256 ∷ p.at % 256 ∷ p.at / 256 % 256 ∷ []

abbrev pub swept : List ℕ → Chunk → List ℕ
swept l p = splice l 12 (chunk_bytes p)

abbrev pub swept_left : List ℕ → Chunk → List ℕ → List ℕ → Left
swept_left l p t r = record {
  step = transfer_step false (meant [] (scrub_ask (Read p)));
  state = swept l p;
  transfer = padded (sent (meant [] (scrub_ask (Read p)))) ++ drop 19 t;
  reply = r;
}

abbrev pub Follows : List ℕ → Chunk → Type 0
Follows l p = (two_at l 12 ≡ p.left + 1) × (two_at l 14 + 64 ≡ p.at) × Whole p

abbrev pub Clean : List ℕ → List ℕ → Option Chunk → Type 0
Clean l r (Some p) =
    (Follows l p)
    × ((t lent out : List ℕ) (ack : ℕ) → 19 ≤ length t → length lent ≡ 0 → length out ≡ 0 → not (eqb ack 0) ≡ true
    → reply_left l t r lent out ack ≡ swept_left l p t r)
Clean l r None = Unit
