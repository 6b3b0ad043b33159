-- Options that a truth value gives or withholds.
use Rattle.std.proofs.Common.{◌≡◌, Bool, true, false, cond, Option, Some, None, refl}

-- given where the test passes
pub when : {A : Type 0} (b : Bool) (o : Option A) (x : A) → cond b o None ≡ Some x → (b ≡ true) × (o ≡ Some x)
when true o x e = (refl, e)
when false o x e = absurd cc

-- given where the test fails
pub unless : {A : Type 0} (b : Bool) (o : Option A) (x : A) → cond b None o ≡ Some x → (b ≡ false) × (o ≡ Some x)
unless true o x e = absurd cc
unless false o x e = (refl, e)
