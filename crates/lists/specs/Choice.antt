-- A choice by a test.
use Rattle.std.specs.Prelude.{Bool, true, false}

-- x where the test holds, else y
unfoldable pub pick : {A : Type 0} → Bool → A → A → A
pick true x y = x
pick false x y = y
