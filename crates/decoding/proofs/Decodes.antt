-- What the code of `decode` comes to.
use mathlib.Core.Path.{◌≡◌, sym, ap, ◌∙◌}
use mathlib.Core.List.{List}
use mathlib.Core.Bool.{Bool, true, false, ◌&&◌}
use Prim.Native.Nat.{ℕ}
use lib.ListN.{length}
use borrow.Author.Tests.{eq-eqb}
use Rattle.std.specs.Prelude.{Option, Some, None}
use Rattle.slices.specs.Pick.{pick}
use Rattle.session.specs.Sound.{sound}
use Rattle.session.specs.declared.session.Session.{Session}
use Rattle.numbers.specs.Flat.{flatten}
use Rattle.numbers.specs.From.{session_from}
use Rattle.state.specs.Bytes.{same_flat, flat_of, decode_flat, decode_of}
use Rattle.numbers.specs.declared.flat.Flat.{Flat}

module _ (f : Flat) (s : Session) (b d : Bool) (es : s ≡ session_from f) (eb : b ≡ same_flat (flatten (session_from f)) f) (ed : d ≡ sound s) where
  decode_either : pick (b && d) (Some s) None ≡ decode_flat f
  decode_either =
      let y : d ≡ sound (session_from f) = ed ∙ ap sound es in
      λ i. pick (eb i && y i) (Some (es i)) None

  pub decode_yes : (b && d) ≡ true → Some s ≡ decode_flat f
  decode_yes h = sym (ap (λ (t : Bool). pick t (Some s) None) h) ∙ decode_either

  pub decode_no : (b && d) ≡ false → None ≡ decode_flat f
  decode_no h = sym (ap (λ (t : Bool). pick t (Some s) None) h) ∙ decode_either

pub decode_long : (l : List ℕ) (f : Flat) (d : Option Session) → length l ≡ 20 → f ≡ flat_of l → d ≡ decode_flat f → d ≡ decode_of l
decode_long l f d h ef ed = rw (eq-eqb (length l) 20 h) (ed ∙ ap decode_flat ef)
