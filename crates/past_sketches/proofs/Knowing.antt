-- A sketch that fits a moment fits it with what else is true of a figure.
use Rattle.std.proofs.Common.{◌≡◌, ℕ, ◌==◌, inl, inr, Bool, true, false, cond, List, [], ◌∷◌, refl, ap, sym, ◌∙◌, subst}
use Rattle.std.proofs.lemmas.Bool.{cases_eq, cond-true, cond-false, eq-eqb, ne_eqb}
use Rattle.std.specs.Prelude.{Some}
use Rattle.board_base.specs.declared.moves.Move.{Move}
use Rattle.past_sketches.specs.Figures.{Figure, Sketch, figure_at}
use Rattle.past_sketches.specs.Known.{known_at, marked_at}
use Rattle.past_sketches.specs.Fits.{Fits, IsManOf, Stands, is_plain}
use Rattle.past_sketches.proofs.Taken.{same-figure}
use Rattle.past_sketches.proofs.Changed.{fits-changed, InOrder}
use Rattle.past_sketches.proofs.Sketches.{only-kind}
use Rattle.board_base.specs.declared.men.Man.{Man}

-- what is known of the figure with one number
known-stands : (o : List Bool) (p : List Move) (n i l : ℕ) (f g : Figure) → (n ≡ i → Stands o p g l) → Stands o p f l → Stands o p (cond (n == i) g f) l
known-stands o p n i l f g his others = elim (cases_eq n i) [
  | inl same ↦ subst (λ (x : Figure). Stands o p x l) (sym (cond-true (n == i) g f (eq-eqb _ _ same))) (his same)
  | inr other ↦ subst (λ (x : Figure). Stands o p x l) (sym (cond-false (n == i) g f (ne_eqb _ _ other))) others
]

-- a change that keeps the place
place-same : (b : Bool) (f g : Figure) → g.place ≡ f.place → (cond b g f).place ≡ f.place
place-same true f g e = e
place-same false f g e = refl

keeps-order : (o : List Bool) (p : List Move) (S : Sketch) (fits : Fits o p S) (i : ℕ) (h : Figure → Figure) → ((f : Figure) → (h f).place ≡ f.place) → InOrder o p S fits.label (λ n f. cond (n == i) (h f) f)
keeps-order o p S fits i h same n k f g s t e1 e2 a b level lower =
    let order = fits.order n k f g s t e1 e2 a b level lower in
    let left = place-same (n == i) f (h f) (same f) in
    let right = place-same (k == i) g (h g) (same g) in
    rw (left, right) order

-- a sketch that fits does so with a mark that is true
pub mark-fits : (o : List Bool) (p : List Move) (S : Sketch) (i : ℕ) → (fits : Fits o p S) → ((f : Figure) (s : ℕ) (m : Man) → figure_at S i ≡ Some f → IsManOf o p f (fits.label i) s m → is_plain o p (fits.label i) m ≡ true) → Fits o p (marked_at i S)
unfolding marked_at
mark-fits o p S i fits forced = fits-changed o p p S (λ n f. cond (n == i) (record f { marked = true }) f) fits (λ n f found.
    let his = fits.stand n f found in
    known-stands o p n i (fits.label n) f (record f { marked = true }) (λ same.
    (his.0, his.1, record { label = his.2.label; there = his.2.there; colour = his.2.colour; kind = his.2.kind; square = his.2.square; mark = λ marked. marks n f his.0 his.1 found same his.2 })) his) (keeps-order o p S fits i (λ f. record f { marked = true }) (λ f. refl))
  where
    marks : (n : ℕ) (f : Figure) (s : ℕ) (m : Man) → figure_at S n ≡ Some f → n ≡ i → IsManOf o p f (fits.label n) s m → is_plain o p (fits.label n) m ≡ true
    marks n f s m found same it = ap (λ (k : ℕ). is_plain o p (fits.label k) m) same ∙ forced f s m (ap (figure_at S) (sym same) ∙ found) (subst (λ (k : ℕ). IsManOf o p f (fits.label k) s m) same it)

-- and with the kind of the figure's man alone
pub kind-fits : (o : List Bool) (p : List Move) (S : Sketch) (i : ℕ) (f : Figure) → (fits : Fits o p S) → figure_at S i ≡ Some f → (s : ℕ) (m : Man) → IsManOf o p f (fits.label i) s m → Fits o p (known_at i m.kind S)
unfolding known_at
kind-fits o p S i f fits found s m it = fits-changed o p p S (λ n g. cond (n == i) (record g { kinds = m.kind ∷ [] }) g) fits (λ n g e.
    known-stands o p n i (fits.label n) g (record g { kinds = m.kind ∷ [] }) (his n g e) (fits.stand n g e)) (keeps-order o p S fits i (λ g. record g { kinds = m.kind ∷ [] }) (λ g. refl))
  where
    his : (n : ℕ) (g : Figure) → figure_at S n ≡ Some g → n ≡ i → Stands o p (record g { kinds = m.kind ∷ [] }) (fits.label n)
    his n g e same =
        let own : f ≡ g = same-figure S i n f g found e (sym same) in
        subst (λ (k : ℕ). Stands o p (record g { kinds = m.kind ∷ [] }) (fits.label k)) (sym same) (subst (λ (h : Figure). Stands o p (record h { kinds = m.kind ∷ [] }) (fits.label i)) own
        (s, m, record { label = it.label; there = it.there; colour = it.colour; kind = only-kind m.kind m.kind refl; square = it.square; mark = it.mark }))
