-- A check of lines that comes to one that says nothing.
use Rattle.std.proofs.Common.{◌≡◌, ℕ, List, refl}
use Rattle.cert_checker.specs.Sketching.{SketchState}
use Rattle.cert_checker.specs.Staging.{CanEnd, IsLow, IsReady, halted_at, stage_of, stop_at}
use Rattle.cert_checker.specs.Kept.{Frame}
use Rattle.cert_checker.specs.declared.stages.Step.{Step}
use Rattle.cert_checker.specs.declared.stages.Step.TheVariants as at

pub halted_stage : (s : Step) (k : SketchState) (frames : List Frame) (due : List ℕ) (n : ℕ) → stage_of (stop_at s n) k frames due ≡ halted_at (stage_of s k frames due) n
halted_stage (at.Heading head) k frames due n = refl
halted_stage (at.Walking claim q) k frames due n = refl
halted_stage (at.Sketching claim q) k frames due n = refl
halted_stage (at.Counting claim q found) k frames due n = refl
halted_stage (at.Skipping claim q found) k frames due n = refl
halted_stage (at.Bad m) k frames due n = refl

-- whatever the frames and the numbers are
pub halted_any : (s : Step) (k : SketchState) (frames others : List Frame) (due more : List ℕ) (n : ℕ) → stage_of (stop_at s n) k frames due ≡ halted_at (stage_of s k others more) n
halted_any (at.Heading head) k frames others due more n = refl
halted_any (at.Walking claim q) k frames others due more n = refl
halted_any (at.Sketching claim q) k frames others due more n = refl
halted_any (at.Counting claim q found) k frames others due more n = refl
halted_any (at.Skipping claim q found) k frames others due more n = refl
halted_any (at.Bad m) k frames others due more n = refl

pub halted_ready : (s : Step) (k : SketchState) (frames : List Frame) (due : List ℕ) (n : ℕ) → IsReady (stop_at s n) k frames due
halted_ready (at.Heading head) k frames due n = tt
halted_ready (at.Walking claim q) k frames due n = tt
halted_ready (at.Sketching claim q) k frames due n = tt
halted_ready (at.Counting claim q found) k frames due n = tt
halted_ready (at.Skipping claim q found) k frames due n = tt
halted_ready (at.Bad m) k frames due n = tt

pub halted_end : (s : Step) (frames : List Frame) (due : List ℕ) (n : ℕ) → CanEnd (stop_at s n) frames due
halted_end (at.Heading head) frames due n = tt
halted_end (at.Walking claim q) frames due n = tt
halted_end (at.Sketching claim q) frames due n = tt
halted_end (at.Counting claim q found) frames due n = tt
halted_end (at.Skipping claim q found) frames due n = tt
halted_end (at.Bad m) frames due n = tt

pub ready_end : (s : Step) (k : SketchState) (frames : List Frame) (due : List ℕ) → IsReady s k frames due → CanEnd s frames due
ready_end (at.Heading head) k frames due ready = tt
ready_end (at.Walking claim q) k frames due ready = ready.1
ready_end (at.Sketching claim q) k frames due ready = tt
ready_end (at.Counting claim q found) k frames due ready = ready.1
ready_end (at.Skipping claim q found) k frames due ready = tt
ready_end (at.Bad m) k frames due ready = tt

-- a sketch that is read has few lines of prices
pub ready_low : (s : Step) (k : SketchState) (frames : List Frame) (due : List ℕ) → IsReady s k frames due → IsLow (stage_of s k frames due)
ready_low (at.Heading head) k frames due ready = tt
ready_low (at.Walking claim q) k frames due ready = tt
ready_low (at.Sketching claim q) k frames due ready = ready.1.few
ready_low (at.Counting claim q found) k frames due ready = tt
ready_low (at.Skipping claim q found) k frames due ready = ready.1
ready_low (at.Bad m) k frames due ready = tt
