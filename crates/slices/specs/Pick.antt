-- A choice by a test. Definitions that compute pick their case with it. From no public document.
--
--   pick b x y   == x where the test b holds, else y
use Rattle.std.specs.Prelude.{Bool, true, false}

abbrev pub pick {ℓ} : {X : Type ℓ} → Bool → X → X → X
pick true x y = x
pick false x y = y
