-- Where a URI's rest stands: inside the image, in the record's payload, and what stands there is UTF-8.
--
--   uri_stands           == the rest of a record's URI stands so
use mathlib.Core.Path.{◌≡◌, refl, subst}
use mathlib.Core.Bool.{true}
use mathlib.Core.List.{List, [], ◌∷◌}
use Prim.Native.Nat.{ℕ, ◌+◌}
use native.Mathlib.Omega.{arith}
use lib.ListN.{length}
use Rattle.std.specs.Prelude.{Option, Some, None}
use Rattle.slices.proofs.Cases.{pick_cases}
use Rattle.tlv.specs.declared.Span.{Span}
use Rattle.tlv.specs.Blocks.{span}
use Rattle.utf8.specs.Utf8.{utf8}
use Rattle.uri.specs.Prefixes.{prefix_answer}
use Rattle.records.specs.declared.Record.{Record}
use Rattle.pieces.specs.Parts.{is_of, payload_of}
use Rattle.contents.specs.Contents.{payload_at}
use Rattle.contents.proofs.Inside.{Rest, Stands, stands}
use Rattle.links.specs.Links.{Uri, with_prefix, uri_in, uri_of}

-- where a URI's rest stands, if it is one
abbrev Tells : (Span → Type 0) → Option Uri → Type 0
Tells P (Some u) = P u.rest
Tells P None = Unit {0}

abbrev Behind : List ℕ → ℕ → Span → Type 0
Behind q at b = Rest q at b.at b.len

known : (code at : ℕ) (rest : List ℕ) (x : Option (List ℕ)) → utf8 rest ≡ true
    → Tells (Behind (code ∷ rest) at) (with_prefix (span (at + 1) (length rest)) code x)
known code at rest (Some p) u = record { before = 1; some = omega arith; place = refl; len = omega arith; text = u }
known code at rest None u = tt

uri_rest : (q : List ℕ) (at : ℕ) → Tells (Behind q at) (uri_in q at)
unfolding uri_in
uri_rest [] at = tt
uri_rest (code ∷ rest) at =
    pick_cases (Tells (Behind (code ∷ rest) at)) (utf8 rest) (known code at rest (prefix_answer code)) (λ _. tt)

abbrev In : List ℕ → Record → Span → Type 0
In s r b = Stands s (payload_of s r) b.at b.len

told : (s : List ℕ) (r : Record) (x : Option Uri) → Tells (Behind (payload_of s r) (payload_at r)) x → Tells (In s r) x
told s r (Some u) h = stands s r h
told s r None h = tt

uri_in_image : (s : List ℕ) (r : Record) → Tells (In s r) (uri_of s r)
unfolding uri_of
uri_in_image s r =
    pick_cases (Tells (In s r)) (is_of s r 0x55) (λ _. told s r _ (uri_rest (payload_of s r) (payload_at r))) (λ _. tt)

pub uri_stands : (s : List ℕ) (r : Record) {u : Uri} → uri_of s r ≡ Some u → Stands s (payload_of s r) u.rest.at u.rest.len
uri_stands s r e = subst (Tells (In s r)) e (uri_in_image s r)
