-- Counts of men on a board with only some of the men of another.
use Rattle.std.proofs.Common.{◌≡◌, ℕ, zero, suc, ◌+◌, ◌<◌, ◌≤◌, Bool, true, false, cond, ◌&&◌, ◌||◌, not, List, refl, ap, sym, ◌∙◌, arith}
use Rattle.std.proofs.lemmas.Bool.{and_right, both_ways, and_parts}
use Rattle.std.proofs.lemmas.List.FromFn.{get_or-map-range_with_len}
use Rattle.std.proofs.lemmas.List.Sums.{sum_by-cons}
use Rattle.std.specs.Prelude.{Option, Some, None}
use Rattle.std.specs.List.{count_by, range_with_len}
use Rattle.board_base.specs.Board.{Places, array_of, initial_array, at, is_in, is_a, is_of, is_the}
use Rattle.board_base.specs.Legal.{is_officer}
use Rattle.board_base.specs.declared.men.Man.{Man}
use Rattle.board_base.specs.declared.men.Colour.{Colour}
use Rattle.board_base.specs.declared.men.Kind.{Kind}
use Rattle.board_base.specs.declared.men.Kind.TheVariants.{Pawn, Knight, Bishop, Rook, Queen}
use Rattle.board_base.proofs.Without.{at-without}
use Rattle.board_base.proofs.KindsOfMen.{full-of, kind_is}
use Rattle.men_account.specs.Account.{men, is_any, is_light, is_dark, counts_of, allowance_of}
use Rattle.men_account.specs.Homes.{men_of}
use Rattle.men_account.specs.declared.tallies.Counts.{Counts}
use Rattle.men_account.specs.declared.tallies.Allowance.{Allowance}
use Rattle.cage_rules.proofs.Refuted.{officer-kind}
use Rattle.cage_rules.specs.Regions.{beginner, is_dead, is_officer_home}
use Rattle.static_rules.specs.Left.{has_stayed, left_with, may_live}
use Rattle.static_rules.proofs.Alive.{alive-at-home}

-- two tests that agree on a range count alike
pub same-count : (p q : ℕ → Bool) (k n : ℕ) → ((s : ℕ) → k ≤ s → s < k + n → p s ≡ q s) → count_by p (range_with_len k n) ≡ count_by q (range_with_len k n)
same-count p q k zero same = refl
same-count p q k (suc n) same =
    let here : ◌≡◌ {A = ℕ} (cond (p k) 1 0) (cond (q k) 1 0) = ap (λ (b : Bool). cond b 1 0) (same k (omega arith) (omega arith)) in
    let rest = same-count p q (k + 1) n (λ s low high. same s (omega arith) (omega arith)) in
    omega (arith, sum_by-cons (λ x. cond (p x) 1 0) k (range_with_len (k + 1) n), sum_by-cons (λ x. cond (q x) 1 0) k (range_with_len (k + 1) n), here, rest)

pub at-left : (keeps : ℕ → Bool) (first : Places) (s : ℕ) → s < 64 → at (left_with keeps first) s ≡ cond (keeps s) (at first s) None
unfolding left_with
at-left keeps first s inside = get_or-map-range_with_len (λ t. cond (keeps t) (at first t) None) 0 64 s s None inside (omega arith)

-- an officer of the array stands on an officer's home
officer-home : (c : Colour) (k : Kind) (place : Option Man) → is_officer k ≡ true → is_the c k place ≡ true → (is_a Knight place || is_a Bishop place || is_a Rook place || is_a Queen place) ≡ true
officer-home c k None officer h = absurd (both_ways false refl h)
officer-home c k (Some m) officer h =
    let same : k ≡ m.kind = kind_is k m.kind (and_parts (is_of c (Some m)) (is_a k (Some m)) h).1 in
    officer-kind m.kind (ap is_officer (sym same) ∙ officer)

-- a man counts where he is left, that is where his home counts
nobody : (b among : Bool) → (cond b false false && among) ≡ false
nobody true among = refl
nobody false among = refl

kept-officer : (own home stayed dead among there : Bool) → (there ≡ true → own ≡ true) → (there ≡ true → home ≡ true) → (there ≡ true → stayed ≡ true → dead ≡ false) → (cond (not (own && home && not stayed && dead)) there false && among) ≡ (there && (among && not dead))
kept-officer own home stayed dead among false his is alive = nobody (not (own && home && not stayed && dead)) among
kept-officer false home stayed dead among true his is alive = absurd (both_ways false refl (his refl))
kept-officer true false stayed dead among true his is alive = absurd (both_ways false refl (is refl))
kept-officer true true true true among true his is alive = absurd (both_ways true (alive refl refl) refl)
kept-officer true true true false true true his is alive = refl
kept-officer true true true false false true his is alive = refl
kept-officer true true false true among true his is alive = sym (and_right among false refl)
kept-officer true true false false true true his is alive = refl
kept-officer true true false false false true his is alive = refl

is_the-kept : (c : Colour) (k : Kind) (b : Bool) (place : Option Man) → is_the c k (cond b place None) ≡ cond b (is_the c k place) false
is_the-kept c k true place = refl
is_the-kept c k false place = refl

kept-the : (c : Colour) (k : Kind) (b : Bool) (place : Option Man) → is_the c k (cond b None place) ≡ true → is_the c k place ≡ true
kept-the c k true place h = absurd (both_ways false refl h)
kept-the c k false place h = h

pub home-of : (o : List Bool) (c : Colour) (k : Kind) (s : ℕ) → is_officer k ≡ true → is_the c k (at (array_of o) s) ≡ true → is_officer_home s ≡ true
unfolding array_of beginner
home-of o c k s officer h = officer-home c k (at initial_array s) officer (kept-the c k (is_in o s) (at initial_array s) (sym (ap (is_the c k) (at-without o initial_array s)) ∙ h))

-- the officers who are left where homes are dead
living-men : (o : List Bool) (board : Places) (set : List Bool) (c : Colour) (k : Kind) (among : ℕ → Bool) → is_officer k ≡ true → men c k among (left_with (may_live c (array_of o) board set) (array_of o)) ≡ men c k (λ s. among s && not (is_dead board set s)) (array_of o)
unfolding men
living-men o board set c k among officer =
    same-count (λ s. is_the c k (at (left_with (may_live c (array_of o) board set) (array_of o)) s) && among s) (λ s. is_the c k (at (array_of o) s) && (among s && not (is_dead board set s))) 0 64 (λ s low high.
    let inside : s < 64 = omega arith in
    let his : is_the c k (at (array_of o) s) ≡ true → is_of c (at (array_of o) s) ≡ true = λ there. (and_parts (is_of c (at (array_of o) s)) (is_a k (at (array_of o) s)) there).0 in
    let home : is_the c k (at (array_of o) s) ≡ true → is_officer_home s ≡ true = home-of o c k s officer in
    ap (λ (p : Option Man). is_the c k p && among s) (at-left (may_live c (array_of o) board set) (array_of o) s inside)
    ∙ ap (λ (b : Bool). b && among s) (is_the-kept c k (may_live c (array_of o) board set s) (at (array_of o) s))
    ∙ kept-officer (is_of c (at (array_of o) s)) (is_officer_home s) (has_stayed (array_of o) board s) (is_dead board set s) (among s) (is_the c k (at (array_of o) s)) his home (λ there. alive-at-home o board set s (home there) (full-of c _ (his there))))

abbrev allowance_as : ℕ → ℕ → ℕ → ℕ → ℕ → ℕ → Allowance
allowance_as p n l d r q = record { pawns = p; knights = n; light_bishops = l; dark_bishops = d; rooks = r; queens = q }

same_allowance : (p p' n n' l l' d d' r r' q q' : ℕ) → p ≡ p' → n ≡ n' → l ≡ l' → d ≡ d' → r ≡ r' → q ≡ q' → allowance_as p n l d r q ≡ allowance_as p' n' l' d' r' q'
same_allowance p p' n n' l l' d d' r r' q q' e0 e1 e2 e3 e4 e5 = cc

pub living-allowance : (o : List Bool) (board : Places) (set : List Bool) (c : Colour) (p : ℕ) (n : Counts) → p ≡ men c Pawn is_any (array_of o) → n ≡ counts_of c (left_with (may_live c (array_of o) board set) (array_of o)) → allowance_as p n.knights n.light_bishops n.dark_bishops n.rooks n.queens ≡ allowance_of c (λ h. not (is_dead board set h)) (array_of o)
living-allowance o board set c p n pawns e =
    same_allowance _ _ _ _ _ _ _ _ _ _ _ _ pawns (ap (λ (x : Counts). x.knights) e ∙ living-men o board set c Knight is_any refl) (ap (λ (x : Counts). x.light_bishops) e ∙ living-men o board set c Bishop is_light refl) (ap (λ (x : Counts). x.dark_bishops) e ∙ living-men o board set c Bishop is_dark refl) (ap (λ (x : Counts). x.rooks) e ∙ living-men o board set c Rook is_any refl) (ap (λ (x : Counts). x.queens) e ∙ living-men o board set c Queen is_any refl)

kept-of : (c : Colour) (b : Bool) (place : Option Man) → (is_of c (cond b place None) && true) ≡ (is_of c place && b)
kept-of c true place = refl
kept-of c false place = sym (and_right (is_of c place) false refl)

pub left-men : (c : Colour) (keeps : ℕ → Bool) (first : Places) → men_of c is_any (left_with keeps first) ≡ men_of c keeps first
unfolding men_of
left-men c keeps first =
    same-count (λ s. is_of c (at (left_with keeps first) s) && is_any s) (λ s. is_of c (at first s) && keeps s) 0 64 (λ s low high.
    ap (λ (p : Option Man). is_of c p && true) (at-left keeps first s (omega arith)) ∙ kept-of c (keeps s) (at first s))
