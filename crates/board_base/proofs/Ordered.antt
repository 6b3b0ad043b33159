-- The orders of moves and unmoves are total, and tell all values apart.
use Rattle.std.proofs.Common.{◌≡◌, ℕ, zero, suc, ◌≤◌, Bool, true, false, refl, sym, ap, ◌∙◌, arith, Option, Some, None, true≢false}
use Rattle.std.proofs.lemmas.Cmp.{nat_cmp_total, ranked}
use Rattle.std.specs.Cmp.{IsTotalOrder, then_total, on_total}
use Rattle.std.specs.Ordering.{nat_cmp, ordering_then}
use Rattle.std.specs.declared.cmp.Ordering.{Ordering}
use Rattle.std.specs.declared.cmp.Ordering.TheVariants.{Less, Equal, Greater}
use Rattle.board_base.specs.declared.men.Kind.{Kind}
use Rattle.board_base.specs.declared.men.Kind.TheVariants.{Pawn, Knight, Bishop, Rook, Queen, King}
use Rattle.board_base.specs.declared.moves.Move.{Move}
use Rattle.board_base.specs.declared.unmoves.Unmove.{Unmove}
use Rattle.board_base.specs.Texts.{place_of, capture_place, move_order, unmove_order, can_capture}

pub move_order_total : IsTotalOrder move_order
move_order_total = then_total (on_total (λ m. m.from) nat_cmp_total) (then_total (on_total (λ m. m.to) nat_cmp_total) (on_total (λ m. place_of m.promo) nat_cmp_total))

pub unmove_order_total : IsTotalOrder unmove_order
unmove_order_total =
    then_total (on_total (λ u. u.mv.to) nat_cmp_total)
    (then_total (on_total (λ u. u.mv.from) nat_cmp_total) (then_total (on_total (λ u. place_of u.mv.promo) nat_cmp_total) (on_total capture_place nat_cmp_total)))

both_equal : (first second : Ordering) → ordering_then first second ≡ Equal → (first ≡ Equal) × (second ≡ Equal)
both_equal Less second e = absurd cc
both_equal Equal second e = (refl, e)
both_equal Greater second e = absurd cc

same_number : (x y : ℕ) → nat_cmp x y ≡ Equal → x ≡ y
same_number x y e = ranked x y Equal (sym e)

-- the kind at a place of the order
kind_at : ℕ → Option Kind
kind_at zero = None
kind_at (suc zero) = Some Pawn
kind_at (suc (suc zero)) = Some Knight
kind_at (suc (suc (suc zero))) = Some Bishop
kind_at (suc (suc (suc (suc zero)))) = Some Rook
kind_at (suc (suc (suc (suc (suc zero))))) = Some Queen
kind_at (suc (suc (suc (suc (suc (suc n)))))) = Some King

kind_at-place_of : (kind : Option Kind) → kind_at (place_of kind) ≡ kind
unfolding kind_at
kind_at-place_of None = refl
kind_at-place_of (Some Pawn) = refl
kind_at-place_of (Some Knight) = refl
kind_at-place_of (Some Bishop) = refl
kind_at-place_of (Some Rook) = refl
kind_at-place_of (Some Queen) = refl
kind_at-place_of (Some King) = refl

same_kind_of : (a b : Option Kind) → place_of a ≡ place_of b → a ≡ b
same_kind_of a b e = sym (kind_at-place_of a) ∙ ap kind_at e ∙ kind_at-place_of b

place_of-le : (kind : Option Kind) → place_of kind ≤ 6
place_of-le None = omega arith
place_of-le (Some Pawn) = omega arith
place_of-le (Some Knight) = omega arith
place_of-le (Some Bishop) = omega arith
place_of-le (Some Rook) = omega arith
place_of-le (Some Queen) = omega arith
place_of-le (Some King) = omega arith

pub move_order_exact : (a b : Move) → move_order a b ≡ Equal → a ≡ b
move_order_exact a b e =
    let f = both_equal (nat_cmp a.from b.from) _ e in
    let t = both_equal (nat_cmp a.to b.to) _ f.1 in
    let from = same_number a.from b.from f.0 in
    let to = same_number a.to b.to t.0 in
    let promo = same_kind_of a.promo b.promo (same_number (place_of a.promo) (place_of b.promo) t.1) in
    λ i. record { from = from i; to = to i; promo = promo i }

-- only a pawn is captured en passant
pawn_captured : (promo captured : Option Kind) → can_capture promo captured true ≡ true → captured ≡ Some Pawn
pawn_captured None (Some Pawn) fits = refl
pawn_captured None None fits = absurd (true≢false (sym fits))
pawn_captured None (Some Knight) fits = absurd (true≢false (sym fits))
pawn_captured None (Some Bishop) fits = absurd (true≢false (sym fits))
pawn_captured None (Some Rook) fits = absurd (true≢false (sym fits))
pawn_captured None (Some Queen) fits = absurd (true≢false (sym fits))
pawn_captured None (Some King) fits = absurd (true≢false (sym fits))
pawn_captured (Some k) captured fits = absurd (true≢false (sym fits))

abbrev taking : Option Kind → Bool → Move → Unmove
taking captured ep mv = record { mv = mv; captured = captured; ep = ep }

same_capture : (mv : Move) (p q c d : Option Kind) (e f : Bool) → can_capture p c e ≡ true → can_capture q d f ≡ true → capture_place (taking c e mv) ≡ capture_place (taking d f mv) → (c ≡ d) × (e ≡ f)
same_capture mv p q c d true true fits fits' same = (pawn_captured p c fits ∙ sym (pawn_captured q d fits'), refl)
same_capture mv p q c d true false fits fits' same = absurd (omega (arith, place_of-le d))
same_capture mv p q c d false true fits fits' same = absurd (omega (arith, place_of-le c))
same_capture mv p q c d false false fits fits' same = (same_kind_of c d same, refl)

pub unmove_order_exact : (a b : Unmove) → can_capture a.mv.promo a.captured a.ep ≡ true → can_capture b.mv.promo b.captured b.ep ≡ true → unmove_order a b ≡ Equal → a ≡ b
unmove_order_exact a b fits fits' e =
    let t = both_equal (nat_cmp a.mv.to b.mv.to) _ e in
    let f = both_equal (nat_cmp a.mv.from b.mv.from) _ t.1 in
    let p = both_equal (nat_cmp (place_of a.mv.promo) (place_of b.mv.promo)) _ f.1 in
    let to = same_number a.mv.to b.mv.to t.0 in
    let from = same_number a.mv.from b.mv.from f.0 in
    let promo = same_kind_of a.mv.promo b.mv.promo (same_number (place_of a.mv.promo) (place_of b.mv.promo) p.0) in
    let capture = same_capture a.mv a.mv.promo b.mv.promo a.captured b.captured a.ep b.ep fits fits' (same_number (capture_place a) (capture_place b) p.1) in
    λ i. record { mv = record { from = from i; to = to i; promo = promo i }; captured = capture.0 i; ep = capture.1 i }
