-- Candidates that need not be tried.
use Rattle.std.proofs.Common.{◌≡◌, ℕ, zero, suc, ◌+◌, ◌*◌, ◌<◌, ◌≤◌, true, false, length, inl, inr, refl, ap, sym, ◌∙◌, subst, arith}
use Rattle.std.proofs.lemmas.Bool.{and_left, and_right, both_ways, cases_eq, false_from_ne_true}
use Rattle.std.proofs.lemmas.Option.{same_Some}
use Rattle.std.specs.Prelude.{Option, Some, None, slice_get}
use Rattle.board_base.specs.Board.{at, is_of}
use Rattle.board_base.specs.declared.men.Kind.{Kind}
use Rattle.board_base.specs.declared.men.Kind.TheVariants.{Knight, Bishop, Rook, Queen}
use Rattle.board_base.specs.declared.men.Man.{Man}
use Rattle.board_base.specs.declared.moves.Move.{Move}
use Rattle.board_base.specs.declared.unmoves.Unmove.{Unmove}
use Rattle.query_base.specs.Asked.{Asked}
use Rattle.play_rules.specs.Listed.{move_of, promotions}
use Rattle.unmove_gen.specs.Listed.{is_listed, mover}
use Rattle.unmove_gen.specs.Numbers.{AreUnlisted, number_at}
use Rattle.unmove_gen.specs.Ready.{IsNoTarget}
use Rattle.unmove_gen.specs.Ways.{IsNoWay, may_have_made, reaches_last}
use Rattle.unmove_gen.proofs.Numbered.{numbered}
use Rattle.unmove_gen.proofs.Parts.{parts}
use Rattle.unmove_gen.proofs.Arrivals.{listed-made}

-- no candidate with a number from low to below high is listed, where none with the parts of such a number is
none-between : (q : Asked) (low high : ℕ) → ((u : Unmove) (promotion capture : ℕ) → low ≤ number_at u.mv.to u.mv.from promotion capture → number_at u.mv.to u.mv.from promotion capture < high → u.mv.from < 64 → promotion < 5 → capture < 7 → slice_get promotions promotion ≡ Some u.mv.promo → is_listed q u ≡ true → ⊥) → AreUnlisted q low high
none-between q low high never n u above below there = false_from_ne_true _ (λ h.
    let k = numbered n u there in
    let number = k.number in
    never u k.promotion k.capture (omega arith) (omega arith) k.origin k.few k.fits k.promo h)

-- the man on the target may have made a listed move, told by its squares
made-so : (q : Asked) (u : Unmove) (from to : ℕ) → length q.board ≡ 64 → is_listed q u ≡ true → u.mv.from ≡ from → u.mv.to ≡ to → may_have_made (at q.board to) (move_of from to u.mv.promo) ≡ true
made-so q u from to len h f t =
    let move : u.mv ≡ move_of from to u.mv.promo = ap (λ (s : ℕ). move_of s u.mv.to u.mv.promo) f ∙ ap (λ (s : ℕ). move_of from s u.mv.promo) t in
    subst (λ (l : Move). may_have_made (at q.board l.to) l ≡ true) move (listed-made q u len h)

-- none goes to any of these targets
pub skip-targets : (q : Asked) (to from p r end high : ℕ) → end ≤ 64 → ((t : ℕ) → to ≤ t → t < end → IsNoTarget q t) → high ≡ 2240 * end → AreUnlisted q (number_at to from p r) high
skip-targets q to from p r end high within none e = none-between q (number_at to from p r) high (λ u promotion capture low below origin few fits promo h.
    none u.mv.to (omega arith) (omega arith) u h refl)

-- nobody stands on the target
pub skip-empty : (q : Asked) (to from p r high : ℕ) → at q.board to ≡ None → high ≡ 2240 * (to + 1) → AreUnlisted q (number_at to from p r) high
skip-empty q to from p r high gone e = none-between q (number_at to from p r) high (λ u promotion capture low below origin few fits promo h.
    let same : u.mv.to ≡ to = omega arith in
    both_ways false refl (sym (ap (is_of (mover q)) (ap (at q.board) same ∙ gone)) ∙ (parts q u h).target))

-- the man on the target can't have made the move with this promotion
pub skip-promotion : (q : Asked) (m : Move) (p r first high : ℕ) → length q.board ≡ 64 → m.from < 64 → p < 5 → slice_get promotions p ≡ Some m.promo → may_have_made (at q.board m.to) m ≡ false → first ≡ number_at m.to m.from p r → high ≡ 2240 * m.to + 35 * m.from + 7 * (p + 1) → AreUnlisted q first high
skip-promotion q m p r first high len small five promo other begins ends = none-between q first high (λ u promotion capture low below origin few fits there h.
    let to : u.mv.to ≡ m.to = omega arith in
    let from : u.mv.from ≡ m.from = omega arith in
    let place : promotion ≡ p = omega arith in
    let same : u.mv.promo ≡ m.promo = same_Some _ _ (sym there ∙ ap (slice_get promotions) place ∙ promo) in
    both_ways _ other (subst (λ (o : Option Kind). may_have_made (at q.board m.to) (move_of m.from m.to o) ≡ true) same (made-so q u m.from m.to len h from to)))

-- a promotion comes after none
officer-place : (p : ℕ) (promo : Option Kind) → 0 < p → slice_get promotions p ≡ Some promo → (P : Option Kind → Type 0) → ((k : Kind) → P (Some k)) → P promo
officer-place zero promo more h P each = absurd (omega arith)
officer-place (suc zero) promo more h P each = subst P (same_Some _ _ h) (each Knight)
officer-place (suc (suc zero)) promo more h P each = subst P (same_Some _ _ h) (each Bishop)
officer-place (suc (suc (suc zero))) promo more h P each = subst P (same_Some _ _ h) (each Rook)
officer-place (suc (suc (suc (suc zero)))) promo more h P each = subst P (same_Some _ _ h) (each Queen)
officer-place (suc (suc (suc (suc (suc p))))) promo more h P each = cc

-- who doesn't stand on his last rank wasn't promoted there
no-last : (place : Option Man) (s t : ℕ) (k : Kind) → reaches_last place t ≡ false → may_have_made place (move_of s t (Some k)) ≡ false
no-last None s t k h = refl
no-last (Some man) s t k h = and_left _ _ (and_right _ _ h)

no-officer : (place : Option Man) (s t p : ℕ) (promo : Option Kind) → reaches_last place t ≡ false → 0 < p → slice_get promotions p ≡ Some promo → may_have_made place (move_of s t promo) ≡ false
no-officer place s t p promo low-rank more there = officer-place p promo more there (λ (o : Option Kind). may_have_made place (move_of s t o) ≡ false) (λ k. no-last place s t k low-rank)

-- the man on the target can't have made the move with this promotion, nor with a later one
pub skip-ways : (q : Asked) (m : Move) (p r first high : ℕ) → length q.board ≡ 64 → m.from < 64 → p < 5 → slice_get promotions p ≡ Some m.promo → may_have_made (at q.board m.to) m ≡ false → reaches_last (at q.board m.to) m.to ≡ false → first ≡ number_at m.to m.from p r → high ≡ 2240 * m.to + 35 * (m.from + 1) → AreUnlisted q first high
skip-ways q m p r first high len small five promo other low-rank begins ends = none-between q first high (λ u promotion capture low below origin few fits there h.
    let to : u.mv.to ≡ m.to = omega arith in
    let from : u.mv.from ≡ m.from = omega arith in
    let later : p ≤ promotion = omega arith in
    let made = made-so q u m.from m.to len h from to in
    elim (cases_eq promotion p) [
      | inl same ↦
          let e : u.mv.promo ≡ m.promo = same_Some _ _ (sym there ∙ ap (slice_get promotions) same ∙ promo) in
          both_ways _ other (subst (λ (o : Option Kind). may_have_made (at q.board m.to) (move_of m.from m.to o) ≡ true) e made)
      | inr apart ↦ both_ways _ (no-officer (at q.board m.to) m.from m.to promotion u.mv.promo low-rank (omega arith) there) made
    ])

-- the man on the target doesn't stand on his last rank, so no promotion brought him there
pub skip-officers : (q : Asked) (to from p high : ℕ) → length q.board ≡ 64 → from < 64 → reaches_last (at q.board to) to ≡ false → high ≡ 2240 * to + 35 * (from + 1) → AreUnlisted q (2240 * to + 35 * from + 7 * (p + 1)) high
skip-officers q to from p high len small low-rank ends = none-between q (2240 * to + 35 * from + 7 * (p + 1)) high (λ u promotion capture low below origin few fits there h.
    let same : u.mv.to ≡ to = omega arith in
    let more : 0 < promotion = omega arith in
    both_ways _ (no-officer (at q.board to) u.mv.from to promotion u.mv.promo low-rank more there) (made-so q u u.mv.from to len h refl same))

-- from none of these origins can the man on the target have come
pub skip-run : (q : Asked) (to from p r end high : ℕ) → length q.board ≡ 64 → from < 64 → ((s : ℕ) → from ≤ s → s < end → IsNoWay q.board (at q.board to) to s) → high ≡ 2240 * to + 35 * end → end ≤ 64 → AreUnlisted q (number_at to from p r) high
skip-run q to from p r end high len small none ends within = none-between q (number_at to from p r) high (λ u promotion capture low below origin few fits there h.
    let same : u.mv.to ≡ to = omega arith in
    let first : from ≤ u.mv.from = omega arith in
    let last : u.mv.from < end = omega arith in
    elim (none u.mv.from first last) [
      | inl full ↦ both_ways _ full (parts q u h).origin
      | inr never ↦ both_ways _ (never u.mv.promo) (made-so q u u.mv.from to len h refl same)
    ])
