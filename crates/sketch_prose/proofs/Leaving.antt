-- What is left to be told.
use Rattle.std.proofs.Common.{◌≡◌, ℕ, zero, suc, ◌+◌, ◌-◌, ◌<◌, ◌≤◌, drop, get_or, length, map, List, [], ◌∷◌, ◌++◌, append_assoc, append-nil, refl, ap, sym, ◌∙◌, subst, arith}
use Rattle.figures.specs.Figures.{Sketch}
use Rattle.sketch_proof.specs.Proofs.{Setting}
use Rattle.sketch_body.specs.Seen.{line_of}
use Rattle.sketch_body.specs.declared.lines.SketchLine.{SketchLine}
use Rattle.sketch_prose.proofs.Adding.{say-append, text-append}
use Rattle.sketch_prose.specs.Levels.{AreLeft, GoesOn, Level, Passes, TellsAll, ToldWhole}
use Rattle.sketch_text.specs.Trees.{Line, Nodes, more, node, none}

nothing-left : (l : Line) (ls : List Line) → [] ≡ l ∷ ls → ⊥
nothing-left l ls e = cc

-- no lines are left
pub all-told : (g : Setting) (vs : List Level) (fs : List Nodes) → AreLeft g vs fs [] → TellsAll g vs fs []
all-told g [] [] it = refl
all-told g [] (ns ∷ fs) it = absurd it
all-told g (v ∷ vs) [] it = absurd it
all-told g (v ∷ vs) (none ∷ fs) (rest, many, due, fit, e, later) = ([], [], refl, refl, all-told g vs fs (subst (AreLeft g vs fs) (sym e) later))
all-told g (v ∷ vs) (more (node label marks reason) ns ∷ fs) (rest, many, due, fit, e, later) = absurd (nothing-left _ _ e)

-- LEVELS THAT ARE TAKEN OFF

pub passes-here : (g : Setting) (vs : List Level) (fs : List Nodes) (lines : List Line) → AreLeft g vs fs lines → Passes g vs fs vs lines
passes-here g vs fs lines it = record { forests = fs; left = it; tells = λ ss told. told }

pub passes-on : (g : Setting) (a b c : List Level) (fs : List Nodes) (lines : List Line) (first : Passes g a fs b lines) → Passes g b first.forests c lines → Passes g a fs c lines
passes-on g a b c fs lines first second =
    record { forests = second.forests; left = second.left; tells = λ ss told. first.tells ss (second.tells ss told) }

off : (g : Setting) (v : Level) (vs : List Level) (fs : List Nodes) (lines : List Line) → v.count ≡ 0 → AreLeft g (v ∷ vs) fs lines → Passes g (v ∷ vs) fs vs lines
off g v vs [] lines empty it = absurd it
off g v vs (none ∷ fs) lines empty (rest, many, due, fit, e, later) =
    record { forests = fs; left = subst (AreLeft g vs fs) (sym e) later; tells = λ ss told. ([], ss, refl, refl, told) }
off g v vs (more x ns ∷ fs) lines empty (rest, many, due, fit, e, later) = absurd (let never : ⊥ = omega (arith, many, empty) in never)

pub passes-off : (g : Setting) (old new : List Level) (v : Level) (fs : List Nodes) (lines : List Line) → old ≡ v ∷ new → v.count ≡ 0 → AreLeft g old fs lines → Passes g old fs new lines
passes-off g old new v fs lines e empty it =
    subst (λ (l : List Level). Passes g l fs new lines) (sym e) (off g v new fs lines empty (subst (λ (l : List Level). AreLeft g l fs lines) e it))

-- LINES THAT ARE TOLD

pub goes-here : (g : Setting) (D : Sketch) (vs : List Level) (fs : List Nodes) (lines : List Line) (o : List ℕ) → AreLeft g vs fs lines → GoesOn g D vs fs vs lines o o
goes-here g D vs fs lines o it = record {
  forests = fs;
  left = it;
  said = [];
  so = tt;
  tells = λ ss told. told;
  text = sym (append-nil o);
}

pub goes-on : (g : Setting) (D : Sketch) (a b c : List Level) (fs : List Nodes) (lines rest : List Line) (o p r : List ℕ) (first : GoesOn g D a fs b lines o p) → GoesOn g D b first.forests c rest p r → GoesOn g D a fs c rest o r
goes-on g D a b c fs lines rest o p r first second = record {
  forests = second.forests;
  left = second.left;
  said = first.said ++ second.said;
  so = say-append g first.said second.said first.so second.so;
  tells = λ ss told. subst (TellsAll g a fs) (sym (append_assoc first.said second.said ss)) (first.tells (second.said ++ ss) (second.tells ss told));
  text = text-append g D first.said second.said o p r first.text second.text;
}

-- behind levels that were taken off
pub goes-passed : (g : Setting) (D : Sketch) (a b c : List Level) (fs : List Nodes) (lines rest : List Line) (o r : List ℕ) (first : Passes g a fs b lines) → GoesOn g D b first.forests c rest o r → GoesOn g D a fs c rest o r
goes-passed g D a b c fs lines rest o r first second = record {
  forests = second.forests;
  left = second.left;
  said = second.said;
  so = second.so;
  tells = λ ss told. first.tells (second.said ++ ss) (second.tells ss told);
  text = second.text;
}

pub told-whole : (g : Setting) (D : Sketch) (old new : List Level) (fs : List Nodes) (rest : List Line) (o r : List ℕ) → rest ≡ [] → GoesOn g D old fs new rest o r → ToldWhole g D old fs o r
told-whole g D old new fs rest o r e it = record {
  said = it.said;
  so = it.so;
  tells = subst (TellsAll g old fs) (append-nil it.said) (it.tells [] (all-told g new it.forests (subst (AreLeft g new it.forests) e it.left)));
  text = it.text;
}

-- LINES THAT ARE SKIPPED

pub skipped-one : (n : ℕ) (x : Line) (xs : List Line) → 0 < n → drop n (x ∷ xs) ≡ drop (n - 1) xs
skipped-one zero x xs some = absurd (let never : ⊥ = omega (arith, some) in never)
skipped-one (suc n) x xs some = let same : n ≡ suc n - 1 = omega arith in ap (λ (k : ℕ). drop k xs) same

-- the lines from one on
pub lines-from : (lines : List SketchLine) (i : ℕ) (x : SketchLine) → i < length lines → x ≡ get_or lines i x → drop i (map line_of lines) ≡ line_of x ∷ map line_of (drop (i + 1) lines)
lines-from [] i x low is = absurd (let never : ⊥ = omega (arith, low) in never)
lines-from (y ∷ ys) zero x low is = ap (λ (z : SketchLine). line_of z ∷ map line_of ys) (sym is)
lines-from (y ∷ ys) (suc i) x low is =
    let same : suc (i + 1) ≡ suc i + 1 = omega arith in
    lines-from ys i x (omega (arith, low)) is ∙ ap (λ (k : ℕ). line_of x ∷ map line_of (drop k (y ∷ ys))) same

pub drop-lines : (lines : List SketchLine) (k : ℕ) → drop k (map line_of lines) ≡ map line_of (drop k lines)
drop-lines lines zero = refl
drop-lines [] (suc k) = refl
drop-lines (y ∷ ys) (suc k) = drop-lines ys k

pub drop-few : (n : ℕ) (xs : List SketchLine) → length (drop n xs) ≤ length xs
drop-few zero xs = omega arith
drop-few (suc n) [] = omega arith
drop-few (suc n) (x ∷ xs) = let later : length (drop n xs) ≤ length xs = drop-few n xs in omega (arith, later)

pub drop-none : (n : ℕ) (xs : List Line) → xs ≡ [] → drop n xs ≡ []
drop-none zero xs e = e
drop-none (suc n) xs e = ap (λ (l : List Line). drop (suc n) l) e
