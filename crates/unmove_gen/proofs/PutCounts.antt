-- Counts of men on a board on which a man is put back by hand.
use Rattle.std.proofs.Common.{◌≡◌, ◌≢◌, ℕ, zero, suc, ◌+◌, ◌-◌, ◌<◌, ◌≤◌, ◌==◌, Bool, true, false, ◌&&◌, ◌||◌, not, List, length, set, inl, inr, refl, ap, sym, ◌∙◌, arith, nat_le}
use Rattle.std.proofs.lemmas.Bool.{and_left, and_right, both_ways, cases_Bool, cases_eq, cond-true, cond-false, ltb-false, ltb-true}
use Rattle.std.proofs.lemmas.List.{length-set, get_or-set_same, get_or-set_other}
use Rattle.std.specs.Prelude.{Option, None, nat_lt}
use Rattle.std.specs.List.{count_by, range_with_len}
use Rattle.general_lemmas.proofs.Counts.{count-cons, one_if}
use Rattle.board_base.specs.Board.{Places, array_of, at, is_a, is_of, is_the, man, same_kind}
use Rattle.board_base.specs.declared.men.Man.{Man}
use Rattle.board_base.specs.declared.men.Colour.{Colour}
use Rattle.board_base.specs.declared.men.Kind.{Kind}
use Rattle.board_base.specs.declared.men.Kind.TheVariants.{Pawn, Knight, Bishop, Rook, Queen, King}
use Rattle.board_base.specs.declared.moves.Move.{Move}
use Rattle.board_base.proofs.KindsOfMen.{same_colour-self}
use Rattle.men_account.specs.Account.{accounts_for, allowance_of, counts_of, excess_of, is_any, is_dark, is_light, men}
use Rattle.men_account.specs.declared.tallies.Allowance.{Allowance}
use Rattle.men_account.specs.declared.tallies.Counts.{Counts}
use Rattle.unmove_gen.specs.Plain.{IsPlain, has_room, put_back}
use Rattle.unmove_gen.proofs.PutBack.{apart}

-- two tests that differ at a number below the range
count-below : (p q : ℕ → Bool) (i n k : ℕ) → i < k → ((s : ℕ) → s ≢ i → p s ≡ q s) → count_by p (range_with_len k n) ≡ count_by q (range_with_len k n)
count-below p q i zero k below same = refl
count-below p q i (suc n) k below same =
    let here : one_if (p k) ≡ one_if (q k) = ap one_if (same k (λ e. omega arith)) in
    omega (arith, count-cons p k (range_with_len (k + 1) n), count-cons q k (range_with_len (k + 1) n), here, count-below p q i n (k + 1) (omega arith) same)

-- two tests that differ at a number of the range
count-within : (p q : ℕ → Bool) (i n k : ℕ) → k ≤ i → i < k + n → ((s : ℕ) → s ≢ i → p s ≡ q s) → count_by p (range_with_len k n) + one_if (q i) ≡ count_by q (range_with_len k n) + one_if (p i)
count-within p q i zero k low high same = absurd (omega arith)
count-within p q i (suc n) k low high same = elim (cases_eq k i) [
  | inl here ↦
      let e1 : one_if (p k) ≡ one_if (p i) = ap (λ (s : ℕ). one_if (p s)) here in
      let e2 : one_if (q k) ≡ one_if (q i) = ap (λ (s : ℕ). one_if (q s)) here in
      omega (arith, count-cons p k (range_with_len (k + 1) n), count-cons q k (range_with_len (k + 1) n), e1, e2, count-below p q i n (k + 1) (omega arith) same)
  | inr other ↦
      let here : one_if (p k) ≡ one_if (q k) = ap one_if (same k other) in
      omega (arith, count-cons p k (range_with_len (k + 1) n), count-cons q k (range_with_len (k + 1) n), here, count-within p q i n (k + 1) (omega arith) (omega arith) same)
]

-- a write on a square of the board
men-set : (c : Colour) (k : Kind) (among : ℕ → Bool) (board : Places) (i : ℕ) (v : Option Man) → length board ≡ 64 → i < 64 → men c k among (set board i v) + one_if (is_the c k (at board i) && among i) ≡ men c k among board + one_if (is_the c k v && among i)
unfolding men
men-set c k among board i v len small =
    let inside : i < length board = omega arith in
    let new : one_if (is_the c k (at (set board i v) i) && among i) ≡ one_if (is_the c k v && among i) =
    ap (λ (p : Option Man). one_if (is_the c k p && among i)) (get_or-set_same board i v None inside) in
    let same : (s : ℕ) → s ≢ i → (is_the c k (at (set board i v) s) && among s) ≡ (is_the c k (at board s) && among s) =
    λ s other. ap (λ (p : Option Man). is_the c k p && among s) (get_or-set_other board i s v None other) in
    omega (arith, count-within (λ s. is_the c k (at (set board i v) s) && among s) (λ s. is_the c k (at board s) && among s) i 64 0 (omega arith) (omega arith) same, new)

-- a man goes from the target to the origin, and another comes to the target
pub men-put : (d c : Colour) (k : Kind) (among : ℕ → Bool) (board : Places) (m : Move) (taken : Option Man) → IsPlain board c m → men d k among (put_back board m taken) + one_if (is_the d k (at board m.to) && among m.to) ≡ men d k among board + one_if (is_the d k (at board m.to) && among m.from) + one_if (is_the d k taken && among m.to)
men-put d c k among board m taken p =
    let len = p.whole in
    let f = p.from in
    let t = p.to in
    let bare : Places = set board m.to None in
    let back : Places = set bare m.from (at board m.to) in
    let len1 : length bare ≡ 64 = length-set board m.to None ∙ len in
    let len2 : length back ≡ 64 = length-set bare m.from (at board m.to) ∙ len1 in
    let gone : at bare m.from ≡ None = get_or-set_other board m.to m.from None None (apart board c m p) ∙ p.origin in
    let free : at back m.to ≡ None = get_or-set_other bare m.from m.to (at board m.to) None (λ e. apart board c m p (sym e)) ∙ get_or-set_same board m.to None None (omega arith) in
    let g : one_if (is_the d k (at bare m.from) && among m.from) ≡ 0 = ap (λ (o : Option Man). one_if (is_the d k o && among m.from)) gone in
    let h : one_if (is_the d k (at back m.to) && among m.to) ≡ 0 = ap (λ (o : Option Man). one_if (is_the d k o && among m.to)) free in
    omega (arith, g, h, men-set d k among board m.to None len t, men-set d k among bare m.from (at board m.to) len1 f, men-set d k among back m.to taken len2 t)

none-of : (d : Colour) (k : Kind) (place : Option Man) (b : Bool) → is_of d place ≡ false → one_if (is_the d k place && b) ≡ 0
none-of d k place b h = ap one_if (and_left _ b (and_left _ _ h))

-- the men of the side that moved are as many as before, where its bishop stays on the colour of his square
pub men-own : (c : Colour) (k : Kind) (among : ℕ → Bool) (board : Places) (m : Move) (taken : Option Man) → IsPlain board c m → is_of c taken ≡ false → (is_the c k (at board m.to) && among m.to) ≡ (is_the c k (at board m.to) && among m.from) → men c k among (put_back board m taken) ≡ men c k among board
men-own c k among board m taken p other same =
    let e : one_if (is_the c k (at board m.to) && among m.to) ≡ one_if (is_the c k (at board m.to) && among m.from) = ap one_if same in
    omega (arith, e, none-of c k taken (among m.to) other, men-put c c k among board m taken p)

-- the other side has one man more
pub men-other : (d c : Colour) (k : Kind) (among : ℕ → Bool) (board : Places) (m : Move) (taken : Option Man) → IsPlain board c m → is_of d (at board m.to) ≡ false → men d k among (put_back board m taken) ≡ men d k among board + one_if (is_the d k taken && among m.to)
men-other d c k among board m taken p other =
    omega (arith, none-of d k (at board m.to) (among m.to) other, none-of d k (at board m.to) (among m.from) other, men-put d c k among board m taken p)

bishop-same : (c : Colour) (place : Option Man) (x y : Bool) → (is_a Bishop place ≡ true → x ≡ y) → (is_the c Bishop place && x) ≡ (is_the c Bishop place && y)
bishop-same c place x y h = elim (cases_Bool (is_a Bishop place)) [
  | inl bishop ↦ ap (λ (b : Bool). is_the c Bishop place && b) (h bishop)
  | inr other ↦ and_left _ x (and_right _ _ other) ∙ sym (and_left _ y (and_right _ _ other))
]

-- the account of a side, by what it begins with
pub account-of : (o : List Bool) (board : Places) (c : Colour) → let x : Allowance = allowance_of c is_any (array_of o) in accounts_for o board c ≡ nat_le (excess_of (counts_of c board) x) x.pawns
unfolding accounts_for
account-of o board c = refl

excess-same : (x : Allowance) (a b : Counts) → a.pawns ≡ b.pawns → a.queens ≡ b.queens → a.rooks ≡ b.rooks → a.knights ≡ b.knights → a.light_bishops ≡ b.light_bishops → a.dark_bishops ≡ b.dark_bishops → excess_of a x ≡ excess_of b x
excess-same x a b p q r n l d = cc

-- the account of the side that moved stays
pub account-own : (o : List Bool) (c : Colour) (board : Places) (m : Move) (taken : Option Man) → IsPlain board c m → is_of c taken ≡ false → (is_a Bishop (at board m.to) ≡ true → is_light m.to ≡ is_light m.from) → accounts_for o (put_back board m taken) c ≡ accounts_for o board c
account-own o c board m taken p other bishop =
    let x : Allowance = allowance_of c is_any (array_of o) in
    account-of o (put_back board m taken) c ∙
    ap (λ (n : ℕ). nat_le n x.pawns) (excess-same x (counts_of c (put_back board m taken)) (counts_of c board) (men-own c Pawn is_any board m taken p other refl) (men-own c Queen is_any board m taken p other refl) (men-own c Rook is_any board m taken p other refl) (men-own c Knight is_any board m taken p other refl)
    (men-own c Bishop is_light board m taken p other (bishop-same c (at board m.to) (is_light m.to) (is_light m.from) bishop)) (men-own c Bishop is_dark board m taken p other (bishop-same c (at board m.to) (is_dark m.to) (is_dark m.from) (λ h. ap not (bishop h)))))
    ∙ sym (account-of o board c)

men-quiet : (d c : Colour) (k : Kind) (among : ℕ → Bool) (board : Places) (m : Move) → IsPlain board c m → is_of d (at board m.to) ≡ false → men d k among (put_back board m None) ≡ men d k among board
men-quiet d c k among board m p other = omega (arith, men-other d c k among board m None p other)

-- the account of the side that is to move, where nothing was captured
pub account-quiet : (o : List Bool) (d c : Colour) (board : Places) (m : Move) → IsPlain board c m → is_of d (at board m.to) ≡ false → accounts_for o (put_back board m None) d ≡ accounts_for o board d
account-quiet o d c board m p other =
    let x : Allowance = allowance_of d is_any (array_of o) in
    account-of o (put_back board m None) d ∙
    ap (λ (n : ℕ). nat_le n x.pawns) (excess-same x (counts_of d (put_back board m None)) (counts_of d board) (men-quiet d c Pawn is_any board m p other) (men-quiet d c Queen is_any board m p other) (men-quiet d c Rook is_any board m p other) (men-quiet d c Knight is_any board m p other) (men-quiet d c Bishop is_light board m p other) (men-quiet d c Bishop is_dark board m p other))
    ∙ sym (account-of o board d)

room-one : (most e f : ℕ) (b : Bool) → (b ≡ true → f ≡ e) → (b ≡ false → f ≡ e + 1) → nat_le f most ≡ (nat_lt e most || ((e == most) && b))
room-one most e f true same more = let h : f ≡ e = same refl in grind (arith, h)
room-one most e f false same more = let h : f ≡ e + 1 = more refl in grind (arith, h)

-- one more of a kind of which this many are allowed
room-over : (most rest n allowed e f : ℕ) → e ≡ rest + (n - allowed) → f ≡ rest + (n + 1 - allowed) → nat_le f most ≡ (nat_lt e most || ((e == most) && nat_lt n allowed))
room-over most rest n allowed e f a b = room-one most e f (nat_lt n allowed) (λ h. let low : n < allowed = ltb-true n allowed h in omega (arith, a, b)) (λ h. let high : allowed ≤ n = ltb-false n allowed h in omega (arith, a, b))

-- one man more of one kind
man-more : (d c : Colour) (j k : Kind) (among : ℕ → Bool) (board : Places) (m : Move) → IsPlain board c m → is_of d (at board m.to) ≡ false → men d j among (put_back board m (man d k)) ≡ men d j among board + one_if (same_kind j k && among m.to)
man-more d c j k among board m p other =
    men-other d c j among board m (man d k) p other ∙ ap (λ (b : Bool). men d j among board + one_if ((b && same_kind j k) && among m.to)) (same_colour-self d)

plus-none : (a b n : ℕ) → a ≡ b + n → n ≡ 0 → a ≡ b
plus-none a b n e z = omega arith

same-men : (d c : Colour) (j k : Kind) (among : ℕ → Bool) (board : Places) (m : Move) → IsPlain board c m → is_of d (at board m.to) ≡ false → (same_kind j k && among m.to) ≡ false → men d j among (put_back board m (man d k)) ≡ men d j among board
same-men d c j k among board m p other none = plus-none _ _ _ (man-more d c j k among board m p other) (ap one_if none)

more-men : (d c : Colour) (j k : Kind) (among : ℕ → Bool) (board : Places) (m : Move) → IsPlain board c m → is_of d (at board m.to) ≡ false → (same_kind j k && among m.to) ≡ true → men d j among (put_back board m (man d k)) ≡ men d j among board + 1
more-men d c j k among board m p other one = man-more d c j k among board m p other ∙ ap (λ (b : Bool). men d j among board + one_if b) one

pawn-last : (p q r n l d : ℕ) → p + 1 + q + r + n + l + d ≡ p + q + r + n + l + d + 1
pawn-last p q r n l d = omega arith

queen-last : (p q r n l d : ℕ) → p + q + r + n + l + d ≡ p + r + n + l + d + q
queen-last p q r n l d = omega arith

rook-last : (p q r n l d : ℕ) → p + q + r + n + l + d ≡ p + q + n + l + d + r
rook-last p q r n l d = omega arith

knight-last : (p q r n l d : ℕ) → p + q + r + n + l + d ≡ p + q + r + l + d + n
knight-last p q r n l d = omega arith

light-last : (p q r n l d : ℕ) → p + q + r + n + l + d ≡ p + q + r + n + d + l
light-last p q r n l d = omega arith

-- the account with one man more of each kind, from the counts before and after
room-pawn : (x : Allowance) (a b : Counts) (s : ℕ) → b.pawns ≡ a.pawns + 1 → b.queens ≡ a.queens → b.rooks ≡ a.rooks → b.knights ≡ a.knights → b.light_bishops ≡ a.light_bishops → b.dark_bishops ≡ a.dark_bishops → nat_le (excess_of b x) x.pawns ≡ has_room x a Pawn s
room-pawn x a b s p q r n l d =
    let f : excess_of b x ≡ excess_of a x + 1 = excess-same x b (record a { pawns = a.pawns + 1 }) p q r n l d ∙ pawn-last a.pawns (a.queens - x.queens) (a.rooks - x.rooks) (a.knights - x.knights) (a.light_bishops - x.light_bishops) (a.dark_bishops - x.dark_bishops) in
    room-one x.pawns (excess_of a x) (excess_of b x) false (λ h. cc) (λ h. f)

room-queen : (x : Allowance) (a b : Counts) (s : ℕ) → b.pawns ≡ a.pawns → b.queens ≡ a.queens + 1 → b.rooks ≡ a.rooks → b.knights ≡ a.knights → b.light_bishops ≡ a.light_bishops → b.dark_bishops ≡ a.dark_bishops → nat_le (excess_of b x) x.pawns ≡ has_room x a Queen s
room-queen x a b s p q r n l d =
    room-over x.pawns (a.pawns + (a.rooks - x.rooks) + (a.knights - x.knights) + (a.light_bishops - x.light_bishops) + (a.dark_bishops - x.dark_bishops)) a.queens x.queens _ _
    (queen-last a.pawns (a.queens - x.queens) (a.rooks - x.rooks) (a.knights - x.knights) (a.light_bishops - x.light_bishops) (a.dark_bishops - x.dark_bishops))
    (excess-same x b (record a { queens = a.queens + 1 }) p q r n l d ∙ queen-last a.pawns (a.queens + 1 - x.queens) (a.rooks - x.rooks) (a.knights - x.knights) (a.light_bishops - x.light_bishops) (a.dark_bishops - x.dark_bishops))

room-rook : (x : Allowance) (a b : Counts) (s : ℕ) → b.pawns ≡ a.pawns → b.queens ≡ a.queens → b.rooks ≡ a.rooks + 1 → b.knights ≡ a.knights → b.light_bishops ≡ a.light_bishops → b.dark_bishops ≡ a.dark_bishops → nat_le (excess_of b x) x.pawns ≡ has_room x a Rook s
room-rook x a b s p q r n l d =
    room-over x.pawns (a.pawns + (a.queens - x.queens) + (a.knights - x.knights) + (a.light_bishops - x.light_bishops) + (a.dark_bishops - x.dark_bishops)) a.rooks x.rooks _ _
    (rook-last a.pawns (a.queens - x.queens) (a.rooks - x.rooks) (a.knights - x.knights) (a.light_bishops - x.light_bishops) (a.dark_bishops - x.dark_bishops))
    (excess-same x b (record a { rooks = a.rooks + 1 }) p q r n l d ∙ rook-last a.pawns (a.queens - x.queens) (a.rooks + 1 - x.rooks) (a.knights - x.knights) (a.light_bishops - x.light_bishops) (a.dark_bishops - x.dark_bishops))

room-knight : (x : Allowance) (a b : Counts) (s : ℕ) → b.pawns ≡ a.pawns → b.queens ≡ a.queens → b.rooks ≡ a.rooks → b.knights ≡ a.knights + 1 → b.light_bishops ≡ a.light_bishops → b.dark_bishops ≡ a.dark_bishops → nat_le (excess_of b x) x.pawns ≡ has_room x a Knight s
room-knight x a b s p q r n l d =
    room-over x.pawns (a.pawns + (a.queens - x.queens) + (a.rooks - x.rooks) + (a.light_bishops - x.light_bishops) + (a.dark_bishops - x.dark_bishops)) a.knights x.knights _ _
    (knight-last a.pawns (a.queens - x.queens) (a.rooks - x.rooks) (a.knights - x.knights) (a.light_bishops - x.light_bishops) (a.dark_bishops - x.dark_bishops))
    (excess-same x b (record a { knights = a.knights + 1 }) p q r n l d ∙ knight-last a.pawns (a.queens - x.queens) (a.rooks - x.rooks) (a.knights + 1 - x.knights) (a.light_bishops - x.light_bishops) (a.dark_bishops - x.dark_bishops))

room-light : (x : Allowance) (a b : Counts) (s : ℕ) → is_light s ≡ true → b.pawns ≡ a.pawns → b.queens ≡ a.queens → b.rooks ≡ a.rooks → b.knights ≡ a.knights → b.light_bishops ≡ a.light_bishops + 1 → b.dark_bishops ≡ a.dark_bishops → nat_le (excess_of b x) x.pawns ≡ has_room x a Bishop s
room-light x a b s light p q r n l d =
    room-over x.pawns (a.pawns + (a.queens - x.queens) + (a.rooks - x.rooks) + (a.knights - x.knights) + (a.dark_bishops - x.dark_bishops)) a.light_bishops x.light_bishops _ _
    (light-last a.pawns (a.queens - x.queens) (a.rooks - x.rooks) (a.knights - x.knights) (a.light_bishops - x.light_bishops) (a.dark_bishops - x.dark_bishops))
    (excess-same x b (record a { light_bishops = a.light_bishops + 1 }) p q r n l d ∙ light-last a.pawns (a.queens - x.queens) (a.rooks - x.rooks) (a.knights - x.knights) (a.light_bishops + 1 - x.light_bishops) (a.dark_bishops - x.dark_bishops))
    ∙ ap (λ (w : Bool). nat_lt (excess_of a x) x.pawns || ((excess_of a x == x.pawns) && w)) (sym (cond-true (is_light s) (nat_lt a.light_bishops x.light_bishops) (nat_lt a.dark_bishops x.dark_bishops) light))

room-dark : (x : Allowance) (a b : Counts) (s : ℕ) → is_light s ≡ false → b.pawns ≡ a.pawns → b.queens ≡ a.queens → b.rooks ≡ a.rooks → b.knights ≡ a.knights → b.light_bishops ≡ a.light_bishops → b.dark_bishops ≡ a.dark_bishops + 1 → nat_le (excess_of b x) x.pawns ≡ has_room x a Bishop s
room-dark x a b s dark p q r n l d =
    room-over x.pawns (a.pawns + (a.queens - x.queens) + (a.rooks - x.rooks) + (a.knights - x.knights) + (a.light_bishops - x.light_bishops)) a.dark_bishops x.dark_bishops _ _ refl
    (excess-same x b (record a { dark_bishops = a.dark_bishops + 1 }) p q r n l d)
    ∙ ap (λ (w : Bool). nat_lt (excess_of a x) x.pawns || ((excess_of a x == x.pawns) && w)) (sym (cond-false (is_light s) (nat_lt a.light_bishops x.light_bishops) (nat_lt a.dark_bishops x.dark_bishops) dark))

-- the room of the side that is to move, where a man of this kind was captured
room-taken : (x : Allowance) (d c : Colour) (k : Kind) (board : Places) (m : Move) → IsPlain board c m → is_of d (at board m.to) ≡ false → same_kind King k ≡ false → nat_le (excess_of (counts_of d (put_back board m (man d k))) x) x.pawns ≡ has_room x (counts_of d board) k m.to
room-taken x d c King board m p other king = absurd (both_ways true king refl)
room-taken x d c Pawn board m p other king =
    room-pawn x (counts_of d board) (counts_of d (put_back board m (man d Pawn))) m.to (more-men d c Pawn Pawn is_any board m p other refl) (same-men d c Queen Pawn is_any board m p other refl) (same-men d c Rook Pawn is_any board m p other refl) (same-men d c Knight Pawn is_any board m p other refl) (same-men d c Bishop Pawn is_light board m p other refl) (same-men d c Bishop Pawn is_dark board m p other refl)
room-taken x d c Queen board m p other king =
    room-queen x (counts_of d board) (counts_of d (put_back board m (man d Queen))) m.to (same-men d c Pawn Queen is_any board m p other refl) (more-men d c Queen Queen is_any board m p other refl) (same-men d c Rook Queen is_any board m p other refl) (same-men d c Knight Queen is_any board m p other refl) (same-men d c Bishop Queen is_light board m p other refl) (same-men d c Bishop Queen is_dark board m p other refl)
room-taken x d c Rook board m p other king =
    room-rook x (counts_of d board) (counts_of d (put_back board m (man d Rook))) m.to (same-men d c Pawn Rook is_any board m p other refl) (same-men d c Queen Rook is_any board m p other refl) (more-men d c Rook Rook is_any board m p other refl) (same-men d c Knight Rook is_any board m p other refl) (same-men d c Bishop Rook is_light board m p other refl) (same-men d c Bishop Rook is_dark board m p other refl)
room-taken x d c Knight board m p other king =
    room-knight x (counts_of d board) (counts_of d (put_back board m (man d Knight))) m.to (same-men d c Pawn Knight is_any board m p other refl) (same-men d c Queen Knight is_any board m p other refl) (same-men d c Rook Knight is_any board m p other refl) (more-men d c Knight Knight is_any board m p other refl) (same-men d c Bishop Knight is_light board m p other refl) (same-men d c Bishop Knight is_dark board m p other refl)
room-taken x d c Bishop board m p other king = elim (cases_Bool (is_light m.to)) [
  | inl light ↦
      room-light x (counts_of d board) (counts_of d (put_back board m (man d Bishop))) m.to light (same-men d c Pawn Bishop is_any board m p other refl) (same-men d c Queen Bishop is_any board m p other refl) (same-men d c Rook Bishop is_any board m p other refl) (same-men d c Knight Bishop is_any board m p other refl) (more-men d c Bishop Bishop is_light board m p other light) (same-men d c Bishop Bishop is_dark board m p other (ap not light))
  | inr dark ↦
      room-dark x (counts_of d board) (counts_of d (put_back board m (man d Bishop))) m.to dark (same-men d c Pawn Bishop is_any board m p other refl) (same-men d c Queen Bishop is_any board m p other refl) (same-men d c Rook Bishop is_any board m p other refl) (same-men d c Knight Bishop is_any board m p other refl) (same-men d c Bishop Bishop is_light board m p other dark) (more-men d c Bishop Bishop is_dark board m p other (ap not dark))
]

-- and its account
pub account-taken : (o : List Bool) (d c : Colour) (k : Kind) (board : Places) (m : Move) → IsPlain board c m → is_of d (at board m.to) ≡ false → same_kind King k ≡ false → accounts_for o (put_back board m (man d k)) d ≡ has_room (allowance_of d is_any (array_of o)) (counts_of d board) k m.to
account-taken o d c k board m p other king = account-of o (put_back board m (man d k)) d ∙ room-taken (allowance_of d is_any (array_of o)) d c k board m p other king
