-- A walk over all lines, one after another.
use Rattle.std.proofs.Common.{◌≡◌, ◌↔◌, ℕ, ◌+◌, ◌<◌, ◌≤◌, Bool, true, List, [], ◌∷◌, drop, get_or, length, map, refl, ap, sym, ◌∙◌, subst}
use Rattle.std.proofs.lemmas.List.{drop_all, drop_more}
use Rattle.std.specs.Prelude.{Option}
use Rattle.sketch_text.specs.Trees.{Line}
use Rattle.sketch_proof.specs.Proofs.{Setting}
use Rattle.sketch_checker.specs.LineWalk.{IsStop, OnLine, Walking, WalksOn, going, stopped}
use Rattle.sketch_body.specs.Seen.{line_of}
use Rattle.sketch_checker.specs.TreeWalk.{stray, unsupported}
use Rattle.sketch_checker.specs.Walks.{Finishes, Frame, Opened, Walk}
use Rattle.sketch_checker.specs.declared.faults.SketchFault.{SketchFault}
use Rattle.sketch_checker.specs.declared.faults.SketchFault.TheVariants as fault
use Rattle.sketch_body.specs.declared.lines.SketchLine.{SketchLine}
use Rattle.sketch_checker.proofs.Settling.{stays}

-- what is left from line i on begins with it
pub next-line : (all : List SketchLine) (i : ℕ) (x : SketchLine) → i < length all → x ≡ get_or all i x → map line_of (drop i all) ≡ line_of x ∷ map line_of (drop (i + 1) all)
next-line all i x low is = ap (λ (l : List SketchLine). map line_of l) (drop_more all i x low) ∙ ap (λ (y : SketchLine). line_of y ∷ map line_of (drop (i + 1) all)) (sym is)

pub no-line-left : (all : List SketchLine) (i : ℕ) → length all ≤ i → map line_of (drop i all) ≡ []
no-line-left all i past = ap (λ (l : List SketchLine). map line_of l) (drop_all i all past)

module _ (start w next : Walk) (all : List SketchLine) (i : ℕ) (x : SketchLine) (low : i < length all) (is : x ≡ get_or all i x) where
  pub finish-step : ((lines : List Line) → Finishes next lines ↔ Finishes w (line_of x ∷ lines)) → Finishes w (map line_of (drop i all)) ↔ Finishes start (map line_of all) → Finishes next (map line_of (drop (i + 1) all)) ↔ Finishes start (map line_of all)
  finish-step step before =
      let e = next-line all i x low is in
      let here = step (map line_of (drop (i + 1) all)) in
      (λ it. before.0 (subst (Finishes w) (sym e) (here.0 it)), λ it. here.1 (subst (Finishes w) e (before.1 it)))

  pub finish-not : ((lines : List Line) → Finishes w (line_of x ∷ lines) → ⊥) → Finishes w (map line_of (drop i all)) ↔ Finishes start (map line_of all) → Finishes start (map line_of all) → ⊥
  finish-not never before it = never (map line_of (drop (i + 1) all)) (subst (Finishes w) (next-line all i x low is) (before.1 it))

pub finish-end : (start w : Walk) (all : List SketchLine) (i : ℕ) (b : Bool) → length all ≤ i → (b ≡ true) ↔ Finishes w [] → Finishes w (map line_of (drop i all)) ↔ Finishes start (map line_of all) → (b ≡ true) ↔ Finishes start (map line_of all)
finish-end start w all i b past is before =
    let e = no-line-left all i past in
    (λ yes_. before.0 (subst (Finishes w) (sym e) (is.0 yes_)), λ it. is.1 (subst (Finishes w) e (before.1 it)))

-- the walk over all lines, where that over those from line i on is known
module _ (g : Setting) (start : Walking) (all : List SketchLine) (i n : ℕ) where
  -- what the walk comes to from there is what it comes to from the first line on
  abbrev pub Leads : Walking → ℕ → List Line → Type 0
  Leads w j lines = (last : Walking) → WalksOn g w j lines last → WalksOn g start 1 (map line_of all) last

  pub walk-step : (o : Option Opened) (fs : List Frame) (next : Walking) (x : SketchLine) → i < length all → x ≡ get_or all i x → n ≡ i + 1 → OnLine g o fs n (line_of x) next → Leads (going o fs) (i + 1) (map line_of (drop i all)) → Leads next (i + 1 + 1) (map line_of (drop (i + 1) all))
  walk-step o fs next x low is number on before last rest =
      let here : OnLine g o fs (i + 1) (line_of x) next = subst (λ (j : ℕ). OnLine g o fs j (line_of x) next) number on in
      before last (subst (λ (l : List Line). WalksOn g (going o fs) (i + 1) l last) (sym (next-line all i x low is)) (next, here, rest))

  pub walk-stops : (f : SketchFault) (o : Option Opened) (fs : List Frame) (x : SketchLine) → i < length all → x ≡ get_or all i x → n ≡ i + 1 → IsStop f (OnLine g o fs n (line_of x)) → Leads (going o fs) (i + 1) (map line_of (drop i all)) → IsStop f (WalksOn g start 1 (map line_of all))
  walk-stops (fault.Stray m) o fs x low is number on before = walk-step o fs (stopped m stray) x low is number on before (stopped m stray) (stays g (map line_of (drop (i + 1) all)) m (i + 1 + 1) stray)
  walk-stops (fault.Unsupported m) o fs x low is number on before = walk-step o fs (stopped m unsupported) x low is number on before (stopped m unsupported) (stays g (map line_of (drop (i + 1) all)) m (i + 1 + 1) unsupported)
  walk-stops fault.Misplaced o fs x low is number on before = tt

  pub walk-ends : (w : Walking) → length all ≤ i → Leads w (i + 1) (map line_of (drop i all)) → WalksOn g start 1 (map line_of all) w
  walk-ends w past before = before w (subst (λ (l : List Line). WalksOn g w (i + 1) l w) (sym (no-line-left all i past)) refl)
