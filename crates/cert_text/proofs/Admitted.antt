-- Children that are looked at one after another, and what certificates have a text.
use Rattle.std.proofs.Common.{◌≡◌, ℕ, suc, ◌+◌, ◌≤◌, Bool, true, false, ◌&&◌, Option, Some, None, cond, is_none, nat_le, ◌-◌, refl, sym, ap, ◌∙◌, add-one}
use Rattle.std.specs.Prelude.{IsTrue, ◌↔◌, is_some}
use Rattle.std.proofs.lemmas.Bool.{and_left, and_right, both_ways, cond-true, le-leb, leb-true}
use Rattle.board_base.specs.declared.unmoves.Unmove.{Unmove}
use Rattle.sketch_body.specs.Bodies.{most_units}
use Rattle.sketch_body.specs.Whole.{left_of}
use Rattle.cert_text.specs.Tree.{Tree, Forest, count, kid_at, units_in}
use Rattle.cert_text.specs.Sizes.{rest_of}
use Rattle.cert_text.specs.Certificate.{Certificate, HasText}
use Rattle.cert_text.specs.Writable.{is_written, IsQuery, fits, all_fit, has_text}
use Rattle.cert_text.proofs.Forests.{rest-more, rest-end}
use Rattle.cert_text.proofs.CertTexts as texts
use Rattle.general_lemmas.proofs.Truth.{both_true}

left_few_at : (b : Bool) (n : ℕ) → is_some (cond b (Some n) None) ≡ true → b ≡ true
left_few_at true n e = refl
left_few_at false n e = absurd cc

left_few : (left n : ℕ) → is_some (left_of left n) ≡ true → n ≤ left
left_few left n e = leb-true n left (left_few_at (nat_le n left) (left - n) e)

at_kid : (f : Forest) (i depth : ℕ) (u : Unmove) (t : Tree) → kid_at f i ≡ Some (u, t) → all_fit depth (rest_of f i) ≡ (has_text u && fits depth t && all_fit depth (rest_of f (suc i)))
at_kid f i depth u t e = ap (all_fit depth) (rest-more f i u t e)

pub unfit_label : (f : Forest) (i depth : ℕ) (u : Unmove) (t : Tree) → kid_at f i ≡ Some (u, t) → has_text u ≡ false → all_fit depth (rest_of f i) ≡ false
unfit_label f i depth u t e bad = at_kid f i depth u t e ∙ and_left _ _ (and_left _ (fits depth t) bad)

pub unfit_kid : (f : Forest) (i depth : ℕ) (u : Unmove) (t : Tree) → kid_at f i ≡ Some (u, t) → fits depth t ≡ false → all_fit depth (rest_of f i) ≡ false
unfit_kid f i depth u t e bad = at_kid f i depth u t e ∙ and_left _ _ (and_right (has_text u) _ bad)

pub fit_next : (f : Forest) (i depth : ℕ) (u : Unmove) (t : Tree) → kid_at f i ≡ Some (u, t) → has_text u ≡ true → fits depth t ≡ true → all_fit depth (rest_of f (i + 1)) ≡ all_fit depth (rest_of f i)
fit_next f i depth u t e label fit =
    ap (λ (n : ℕ). all_fit depth (rest_of f n)) (add-one i) ∙ sym (at_kid f i depth u t e ∙ both_true (has_text u) (fits depth t) (all_fit depth (rest_of f (suc i))) label fit)

pub fit_end : (f : Forest) (i depth : ℕ) → count f ≤ i → all_fit depth (rest_of f i) ≡ true
fit_end f i depth past = ap (all_fit depth) (rest-end f i past)

pub unwritten : (cert : Certificate) → (is_written cert.claim ≡ true → ⊥) → HasText cert → ⊥
unwritten cert other h = other (texts.writable _ cert h.1).claim

pub barred : (cert : Certificate) → (cert.query.barred ≡ None → ⊥) → HasText cert → ⊥
barred cert some h = some (texts.writable _ cert h.1).plain

pub unfit : (cert : Certificate) → fits 0 cert.root ≡ false → HasText cert → ⊥
unfit cert other h = both_ways (fits 0 cert.root) other (texts.writable _ cert h.1).root

-- all but the units is so
pub by_units : (cert : Certificate) (o : Option ℕ) → IsQuery cert.query → is_written cert.claim ≡ true → cert.query.barred ≡ None → fits 0 cert.root ≡ true → o ≡ left_of most_units (units_in cert.root) → (IsTrue (is_some o)) ↔ HasText cert
by_units cert o known claim plain fit e = (
  λ some. texts.has_text cert known (record { claim = claim; plain = plain; root = fit; few = left_few most_units (units_in cert.root) (sym (ap is_some e) ∙ some) }),
  λ h. ap is_some (e ∙ cond-true (nat_le (units_in cert.root) most_units) _ None (le-leb (units_in cert.root) most_units (texts.writable _ cert h.1).few)),
)

pub none-iff : {A : Type 0} (o : Option A) → (IsTrue (is_none o)) ↔ (o ≡ None)
none-iff None = (λ t. refl, λ e. refl)
none-iff (Some a) = (λ t. absurd cc, λ e. absurd cc)
