-- The cases of what a write asks for, by the tests that pick them.
use mathlib.Core.Path.{◌≡◌, refl, ap, ap₂}
use mathlib.Core.Bool.{Bool, true, false, ◌&&◌}
use mathlib.Core.List.{List}
use Prim.Native.Nat.{ℕ}
use lib.Dec.{eqb}
use lib.ListN.{length, get_or, drop}
use borrow.Author.Tests.{eq-eqb, ne_eqb}
use Rattle.scan.specs.Zeros.{alike}
use Rattle.protocol.specs.Transfer.{place_of}
use Rattle.protocol.specs.Tag.{password}
use Rattle.part.specs.Orders.{user_order, system_order}
use Rattle.part.specs.declared.order.Order.TheVariants.{Row, Dynamic, Password, Byte, Unknown}

module _ (s : List ℕ) (at v : ℕ) (p : at ≡ place_of s) where
  module _ (some : length s ≡ 0 → ⊥) where
    pub user_dynamic : v ≡ get_or s 2 0 → eqb at 0x2003 && eqb (length s) 3 ≡ true → Dynamic v ≡ user_order s
    user_dynamic e h =
        let t : eqb (place_of s) 0x2003 && eqb (length s) 3 ≡ true = rw (← p) h in
        rw (ne_eqb (length s) 0 some) (rw t (ap Dynamic e))

    pub user-row : eqb at 0x2003 && eqb (length s) 3 ≡ false → Row at ≡ user_order s
    user-row h =
        let t : eqb (place_of s) 0x2003 && eqb (length s) 3 ≡ false = rw (← p) h in
        rw (ne_eqb (length s) 0 some) (rw t (ap Row p))

  module _ (b : Bool) (q : b ≡ alike (drop 2 s) password) where
    pub system-password : eqb at 0x0900 && b ≡ true → Password ≡ system_order s
    system-password h =
        let t : eqb (place_of s) 0x0900 && alike (drop 2 s) password ≡ true = rw (← p) (rw (← q) h) in
        rw t refl

    pub system-byte : eqb at 0x0900 && b ≡ false → length s ≡ 3 → v ≡ get_or s 2 0 → Byte at v ≡ system_order s
    system-byte h l e =
        let t : eqb (place_of s) 0x0900 && alike (drop 2 s) password ≡ false = rw (← p) (rw (← q) h) in
        rw t (rw (eq-eqb (length s) 3 l) (ap₂ Byte p e))

    pub system-other : eqb at 0x0900 && b ≡ false → (length s ≡ 3 → ⊥) → Unknown ≡ system_order s
    system-other h l =
        let t : eqb (place_of s) 0x0900 && alike (drop 2 s) password ≡ false = rw (← p) (rw (← q) h) in
        rw t (rw (ne_eqb (length s) 3 l) refl)
