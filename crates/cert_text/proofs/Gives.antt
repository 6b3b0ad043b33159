-- What an option gives, if anything.
use Rattle.std.proofs.Common.{◌≡◌, ℕ, Bool, true, false, cond, List, Option, Some, None, subst}
use Rattle.std.specs.Prelude.{IfSome}
use Rattle.std.proofs.lemmas.Option.{same_Some}
use Rattle.std.specs.Option.{option_map, option_and_then}
use Rattle.board_base.specs.Texts.{◌>>=◌}
use Rattle.fen_text.specs.Parts.{cut_at, parted, parted_as}

-- what the option gives, if anything, has the property
pub record Gives {A : Type 0} (o : Option A) (P : A → Type 0) : Type 0 where
  pub holds : IfSome o P

pub either : {A : Type 0} {P : A → Type 0} (b : Bool) (x y : Option A) → Gives x P → Gives y P → Gives (cond b x y) P
either true x y p q = p
either false x y p q = q

pub after : {A B : Type 0} {P : B → Type 0} (f : A → Option B) (o : Option A) → ((a : A) → Gives (f a) P) → Gives (option_and_then f o) P
after f None p = record { holds = tt }
after f (Some a) p = p a

onward : {A B : Type 0} {P : B → Type 0} (f : A → Option B) (o : Option A) → ((a : A) → Gives (f a) P) → Gives (o >>= f) P
onward f None p = record { holds = tt }
onward f (Some a) p = p a

pub mapped : {A B : Type 0} {P : B → Type 0} (f : A → B) (o : Option A) → Gives o (λ a. P (f a)) → Gives (option_map f o) P
mapped f None p = record { holds = tt }
mapped f (Some a) p = record { holds = p.holds }

pub always : {A : Type 0} {P : A → Type 0} (o : Option A) → ((a : A) → P a) → Gives o P
always None p = record { holds = tt }
always (Some a) p = record { holds = p a }

pub nothing : {A : Type 0} {P : A → Type 0} → Gives None P
nothing = record { holds = tt }

parted_at : {A B : Type 0} {P : B → Type 0} (part : List ℕ → Option A) (last : A → Option B) (more : A → List ℕ → Option B) (text : List ℕ) (o : Option (List ℕ × List ℕ)) → ((a : A) → Gives (last a) P) → ((a : A) (rest : List ℕ) → Gives (more a rest) P) → Gives (parted_as part last more text o) P
parted_at part last more text None l m = onward last (part text) l
parted_at part last more text (Some p) l m = onward (λ a. more a p.1) (part p.0) (λ a. m a p.1)

-- what a text of parts stands for
pub in_parts : {A B : Type 0} {P : B → Type 0} (c : ℕ) (part : List ℕ → Option A) (last : A → Option B) (more : A → List ℕ → Option B) (text : List ℕ) → ((a : A) → Gives (last a) P) → ((a : A) (rest : List ℕ) → Gives (more a rest) P) → Gives (parted c part last more text) P
unfolding parted
in_parts c part last more text l m = parted_at part last more text (cut_at c text) l m

-- from an option that is known
pub given : {A : Type 0} {P : A → Type 0} (o : Option A) (x : A) → Gives o P → o ≡ Some x → P x
given None x g e = absurd cc
given {P = P} (Some a) x g e = subst P (same_Some a x e) g.holds
