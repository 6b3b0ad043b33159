-- The candidates ascend.
use Rattle.std.proofs.Common.{◌≡◌, ℕ, zero, suc, ◌+◌, ◌/◌, ◌<◌, min, inl, inr, refl, ap, sym, arith}
use Rattle.std.proofs.lemmas.Bool.{cases_lt}
use Rattle.std.proofs.lemmas.Option.{same_Some, slice_get-get_or}
use Rattle.std.proofs.lemmas.List.Kept.{AllPairs-filter}
use Rattle.std.specs.Prelude.{Option, Some, slice_get}
use Rattle.std.specs.declared.cmp.Ordering.TheVariants.{Less}
use Rattle.board_base.specs.Texts.{capture_place, place_of, unmove_order}
use Rattle.board_base.specs.declared.men.Kind.{Kind}
use Rattle.board_base.specs.declared.moves.Move.{Move}
use Rattle.board_base.specs.declared.unmoves.Unmove.{Unmove}
use Rattle.query_base.specs.Asked.{Asked}
use Rattle.play_rules.specs.Listed.{promotions}
use Rattle.play_rules.proofs.Order.{equal, less}
use Rattle.unmove_gen.specs.Ascending.{IsAscending}
use Rattle.unmove_gen.specs.Listed.{candidates, is_listed, unmoves, unmoves_of}
use Rattle.unmove_gen.proofs.Numbered.{Numbered, numbered}

-- no promotion is to a pawn, and so there is no promotion at the pawn's place
promotion-place : (p : ℕ) (promo : Option Kind) → slice_get promotions p ≡ Some promo → place_of promo ≡ p + min p 1
promotion-place zero promo h = sym (ap place_of (same_Some _ _ h))
promotion-place (suc zero) promo h = sym (ap place_of (same_Some _ _ h))
promotion-place (suc (suc zero)) promo h = sym (ap place_of (same_Some _ _ h))
promotion-place (suc (suc (suc zero))) promo h = sym (ap place_of (same_Some _ _ h))
promotion-place (suc (suc (suc (suc zero)))) promo h = sym (ap place_of (same_Some _ _ h))
promotion-place (suc (suc (suc (suc (suc p))))) promo h = cc

-- nothing but a capture en passant comes after that of a queen
capture-place : (m : Move) (r : ℕ) (u : Unmove) → slice_get (unmoves_of m) r ≡ Some u → capture_place u ≡ r + r / 6
capture-place m zero u h = sym (ap capture_place (same_Some _ _ h))
capture-place m (suc zero) u h = sym (ap capture_place (same_Some _ _ h))
capture-place m (suc (suc zero)) u h = sym (ap capture_place (same_Some _ _ h))
capture-place m (suc (suc (suc zero))) u h = sym (ap capture_place (same_Some _ _ h))
capture-place m (suc (suc (suc (suc zero)))) u h = sym (ap capture_place (same_Some _ _ h))
capture-place m (suc (suc (suc (suc (suc zero))))) u h = sym (ap capture_place (same_Some _ _ h))
capture-place m (suc (suc (suc (suc (suc (suc zero)))))) u h = sym (ap capture_place (same_Some _ _ h))
capture-place m (suc (suc (suc (suc (suc (suc (suc r))))))) u h = cc

numbers-order : (i j : ℕ) (a b : Unmove) → i < j → Numbered i a → Numbered j b → unmove_order a b ≡ Less
numbers-order i j a b below k l =
    let first = k.number in
    let second = l.number in
    let few = k.few in
    let few' = l.few in
    let fits = k.fits in
    let fits' = l.fits in
    let origin = k.origin in
    let origin' = l.origin in
    let p = promotion-place k.promotion a.mv.promo k.promo in
    let p' = promotion-place l.promotion b.mv.promo l.promo in
    let c = capture-place a.mv k.capture a k.taken in
    let c' = capture-place b.mv l.capture b l.taken in
    elim (cases_lt a.mv.to b.mv.to) [
      | inl to ↦ rw (less a.mv.to b.mv.to to) refl
      | inr not_to ↦
          let to : a.mv.to ≡ b.mv.to = omega arith in
          elim (cases_lt a.mv.from b.mv.from) [
            | inl from ↦ rw (equal a.mv.to b.mv.to to, less a.mv.from b.mv.from from) refl
            | inr not_from ↦
                let from : a.mv.from ≡ b.mv.from = omega arith in
                elim (cases_lt k.promotion l.promotion) [
                  | inl promo ↦
                      let q : place_of a.mv.promo < place_of b.mv.promo = omega arith in
                      rw (equal a.mv.to b.mv.to to, equal a.mv.from b.mv.from from, less (place_of a.mv.promo) (place_of b.mv.promo) q) refl
                  | inr not_promo ↦
                      let q : place_of a.mv.promo ≡ place_of b.mv.promo = omega arith in
                      let r : capture_place a < capture_place b = omega arith in
                      rw (equal a.mv.to b.mv.to to, equal a.mv.from b.mv.from from, equal (place_of a.mv.promo) (place_of b.mv.promo) q, less (capture_place a) (capture_place b) r) refl
                ]
          ]
    ]

candidates-ascend : IsAscending candidates
candidates-ascend i j d before inside =
    numbers-order i j _ _ before (numbered i _ (slice_get-get_or candidates i d (omega arith))) (numbered j _ (slice_get-get_or candidates j d inside))

-- the unmoves of a query ascend
pub unmoves_ascend : (q : Asked) → IsAscending (unmoves q)
unfolding unmoves
unmoves_ascend q = AllPairs-filter (λ a b. unmove_order a b ≡ Less) (is_listed q) candidates candidates-ascend
