-- What is known where an answer has no value.
use Rattle.std.proofs.Common.{◌≡◌, Option, Some, None, refl}
use Rattle.std.specs.Option.{IfNone}

-- a fact that follows from there being no value
pub IfNone-from : {X : Type 0} (o : Option X) (P : Type 0) → (o ≡ None → P) → IfNone o P
IfNone-from None P h = h refl
IfNone-from (Some x) P h = tt
