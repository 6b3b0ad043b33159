-- How the man on the target comes from the origin, told by the board after the move.
use Rattle.std.proofs.Common.{◌≡◌, ◌≢◌, ℕ, ◌<◌, ◌==◌, Bool, true, false, ◌&&◌, ◌||◌, max, not, inl, inr, set, refl, ap, sym, ◌∙◌, arith}
use Rattle.std.proofs.lemmas.Bool.{and_from, and_parts, and_right, both_ways, cases_eq, eqb-true, false_from_ne_true, lt-ltb, not_from_false, or_left, or_right}
use Rattle.std.proofs.lemmas.List.{get_or-set_same, get_or-set_other}
use Rattle.std.specs.Prelude.{Option, Some, None}
use Rattle.std.proofs.Math.Bool.{and-true}
use Rattle.board_base.specs.Board.{Places, at, file, is_a, is_empty, is_of, man, opponent, rank}
use Rattle.board_base.specs.Attacks.{attacks_from, files_apart, is_open, kind_attacks, king_distance, on_one_diagonal, one_ahead, ranks_apart}
use Rattle.board_base.specs.Legal.{last_rank, pawn_rank}
use Rattle.board_base.specs.declared.men.Man.{Man}
use Rattle.board_base.specs.declared.men.Colour.{Colour}
use Rattle.board_base.specs.declared.men.Colour.TheVariants.{White, Black}
use Rattle.board_base.specs.declared.men.Kind.{Kind}
use Rattle.board_base.specs.declared.men.Kind.TheVariants.{Pawn, Knight, Bishop, Rook, Queen, King}
use Rattle.board_base.specs.declared.moves.Move.{Move}
use Rattle.board_base.proofs.KindsOfMen.{colour_is}
use Rattle.play_rules.specs.Laws.{HasNoPawnOnEnds}
use Rattle.play_rules.specs.Ways.{may_step}
use Rattle.unmove_gen.specs.Plain.{IsPlain, goes_plainly, goes_to_empty, put_back}
use Rattle.unmove_gen.specs.Ways.{may_go_alone}
use Rattle.unmove_gen.proofs.Between.{and-under, kind-between, open-between}
use Rattle.unmove_gen.proofs.Opened.{goes-as, goes_as, place_attacks}
use Rattle.unmove_gen.proofs.PlainFitting.{is-mine}
use Rattle.unmove_gen.proofs.PutBack.{at-origin, at-other, at-target}

-- a man of this colour and kind, without promotion: by whether he attacks the target, it is empty, the way is clear, and a foe stands there
man_goes : Colour → Kind → ℕ → ℕ → Bool → Bool → Bool → Bool → Bool
man_goes c Pawn s t hits empty clear foe =
    not (rank t == last_rank c)
    && ((one_ahead c s t && (file s == file t) && empty)
    || ((rank s == pawn_rank c) && (file s == file t) && (ranks_apart s t == 2) && clear && empty)
    || (one_ahead c s t && (files_apart s t == 1) && foe))
man_goes c Knight s t hits empty clear foe = hits
man_goes c Bishop s t hits empty clear foe = hits
man_goes c Rook s t hits empty clear foe = hits
man_goes c Queen s t hits empty clear foe = hits
man_goes c King s t hits empty clear foe = hits

or-none : (b : Bool) → (b || false || false || false) ≡ b
or-none true = refl
or-none false = refl

by-kind : (c : Colour) (k : Kind) (m : Move) (hits empty clear foe : Bool) → goes_as c (record m { promo = None }) (Some (record { colour = c; kind = k })) hits empty clear foe ≡ man_goes c k m.from m.to hits empty clear foe
unfolding goes_as man_goes
by-kind c Pawn m hits empty clear foe = refl
by-kind c Knight m hits empty clear foe = or-none hits
by-kind c Bishop m hits empty clear foe = or-none hits
by-kind c Rook m hits empty clear foe = or-none hits
by-kind c Queen m hits empty clear foe = or-none hits
by-kind c King m hits empty clear foe = or-none hits

goes-by : (c : Colour) (k : Kind) (m : Move) (hits empty clear foe : Bool) → m.promo ≡ None → goes_as c m (Some (record { colour = c; kind = k })) hits empty clear foe ≡ man_goes c k m.from m.to hits empty clear foe
unfolding goes_as man_goes
goes-by c k m hits empty clear foe none =
    ap (λ (o : Option Kind). goes_as c (record m { promo = o }) (Some (record { colour = c; kind = k })) hits empty clear foe) none ∙ by-kind c k m hits empty clear foe

-- the board before is empty on the same squares but for the ends
same-between : (board : Places) (m : Move) (taken : Option Man) (x : ℕ) → x ≢ m.from → x ≢ m.to → is_empty (at (put_back board m taken) x) ≡ is_empty (at board x)
same-between board m taken x f t = ap is_empty (at-other board m taken x f t)

-- how he goes on the board before, by what was captured
goes-back : (c : Colour) (k : Kind) (board : Places) (m : Move) (taken : Option Man) → IsPlain board c m → at board m.to ≡ Some (record { colour = c; kind = k }) → goes_plainly (put_back board m taken) c m ≡ man_goes c k m.from m.to (kind_attacks board c k m.from m.to) (is_empty taken) (is_open (put_back board m taken) m.from m.to) (is_of (opponent c) taken)
goes-back c k board m taken p there =
    let before : Places = put_back board m taken in
    let man : Option Man = Some (record { colour = c; kind = k }) in
    let origin : at before m.from ≡ man = at-origin board c m taken p ∙ there in
    let target : at before m.to ≡ taken = at-target board c m taken p in
    let hits : kind_attacks before c k m.from m.to ≡ kind_attacks board c k m.from m.to = kind-between before board c k m.from m.to p.from p.to (same-between board m taken) in
    goes-as before c m
    ∙ ap (λ (o : Option Man). goes_as c m o (place_attacks before o m.from m.to) (is_empty (at before m.to)) (is_open before m.from m.to) (is_of (opponent c) (at before m.to))) origin
    ∙ ap (λ (h : Bool). goes_as c m man h (is_empty (at before m.to)) (is_open before m.from m.to) (is_of (opponent c) (at before m.to))) hits
    ∙ ap (λ (o : Option Man). goes_as c m man (kind_attacks board c k m.from m.to) (is_empty o) (is_open before m.from m.to) (is_of (opponent c) o)) target
    ∙ goes-by c k m (kind_attacks board c k m.from m.to) (is_empty taken) (is_open before m.from m.to) (is_of (opponent c) taken) p.promo

-- a pawn on the target doesn't stand on his last rank
not-last : (c : Colour) (board : Places) (t : ℕ) → HasNoPawnOnEnds board → at board t ≡ Some (record { colour = c; kind = Pawn }) → not (rank t == last_rank c) ≡ true
not-last White board t none there = not_from_false _ (false_from_ne_true _ (λ last. both_ways _ (none t (or_right (rank t == 0) _ last)) (ap (is_a Pawn) there)))
not-last Black board t none there = not_from_false _ (false_from_ne_true _ (λ last. both_ways _ (none t (or_left (rank t == 0) (rank t == 7) last)) (ap (is_a Pawn) there)))

quiet-two : (x y z : Bool) → ((x && true) || (y && true) || (z && false)) ≡ (x || y)
quiet-two true y z = refl
quiet-two false true z = refl
quiet-two false false true = refl
quiet-two false false false = refl

taking-one : (x y z : Bool) → ((x && false) || (y && false) || (z && true)) ≡ z
taking-one x y z =
    ap (λ (b : Bool). b || (y && false) || (z && true)) (and_right x false refl) ∙ ap (λ (b : Bool). false || b || (z && true)) (and_right y false refl) ∙ and-true z

-- to an empty square he goes as on the board after
comes-empty : (c : Colour) (k : Kind) (board : Places) (m : Move) → IsPlain board c m → HasNoPawnOnEnds board → at board m.to ≡ Some (record { colour = c; kind = k }) → goes_plainly (put_back board m None) c m ≡ goes_to_empty board (record { colour = c; kind = k }) m.from m.to
unfolding man_goes
comes-empty c Pawn board m p ends there =
    let before : Places = put_back board m None in
    let step : Bool = one_ahead c m.from m.to && (file m.from == file m.to) in
    let far : Bool = (rank m.from == pawn_rank c) && (file m.from == file m.to) && (ranks_apart m.from m.to == 2) in
    let strike : Bool = one_ahead c m.from m.to && (files_apart m.from m.to == 1) in
    let clear : Bool = is_open before m.from m.to in
    goes-back c Pawn board m None p there
    ∙ ap (λ (b : Bool). b && ((step && true) || ((far && clear) && true) || (strike && false))) (not-last c board m.to ends there)
    ∙ quiet-two step (far && clear) strike
    ∙ ap (λ (b : Bool). step || b) (and-under far clear (is_open board m.from m.to) (λ h. open-between before board m.from m.to p.from p.to (or_left _ (on_one_diagonal m.from m.to) (or_left _ (rank m.from == rank m.to) (and_parts _ _ (and_parts _ _ h).0).1)) (same-between board m None)))
comes-empty c Knight board m p ends there = goes-back c Knight board m None p there
comes-empty c Bishop board m p ends there = goes-back c Bishop board m None p there
comes-empty c Rook board m p ends there = goes-back c Rook board m None p there
comes-empty c Queen board m p ends there = goes-back c Queen board m None p there
comes-empty c King board m p ends there = goes-back c King board m None p there

-- and he captures where he attacks
comes-taking : (d : Colour) (k j : Kind) (board : Places) (m : Move) → IsPlain board (opponent d) m → HasNoPawnOnEnds board → at board m.to ≡ Some (record { colour = opponent d; kind = k }) → goes_plainly (put_back board m (man d j)) (opponent d) m ≡ kind_attacks board (opponent d) k m.from m.to
unfolding man_goes kind_attacks
comes-taking d Pawn j board m p ends there =
    let c : Colour = opponent d in
    let before : Places = put_back board m (man d j) in
    let step : Bool = one_ahead c m.from m.to && (file m.from == file m.to) in
    let far : Bool = (rank m.from == pawn_rank c) && (file m.from == file m.to) && (ranks_apart m.from m.to == 2) && is_open before m.from m.to in
    let strike : Bool = one_ahead c m.from m.to && (files_apart m.from m.to == 1) in
    goes-back c Pawn board m (man d j) p there
    ∙ ap (λ (b : Bool). b && ((step && false) || (far && false) || (strike && is_of (opponent c) (man d j)))) (not-last c board m.to ends there)
    ∙ ap (λ (b : Bool). (step && false) || (far && false) || (strike && b)) (is-mine d j)
    ∙ taking-one step far strike
comes-taking d Knight j board m p ends there = goes-back (opponent d) Knight board m (man d j) p there
comes-taking d Bishop j board m p ends there = goes-back (opponent d) Bishop board m (man d j) p there
comes-taking d Rook j board m p ends there = goes-back (opponent d) Rook board m (man d j) p there
comes-taking d Queen j board m p ends there = goes-back (opponent d) Queen board m (man d j) p there
comes-taking d King j board m p ends there = goes-back (opponent d) King board m (man d j) p there

by-attack : (board : Places) (c : Colour) (k : Kind) (s t : ℕ) → (k ≡ Pawn → ⊥) → goes_to_empty board (record { colour = c; kind = k }) s t ≡ kind_attacks board c k s t
by-attack board c Pawn s t officer = absurd (officer refl)
by-attack board c Knight s t officer = refl
by-attack board c Bishop s t officer = refl
by-attack board c Rook s t officer = refl
by-attack board c Queen s t officer = refl
by-attack board c King s t officer = refl

own-colour : (c : Colour) (board : Places) (m : Move) (man : Man) → IsPlain board c m → at board m.to ≡ Some man → c ≡ man.colour
own-colour c board m man p there = colour_is c man.colour (sym (ap (is_of c) there) ∙ p.own)

pub empty-man : (c : Colour) (board : Places) (m : Move) (man : Man) → IsPlain board c m → HasNoPawnOnEnds board → at board m.to ≡ Some man → goes_plainly (put_back board m None) c m ≡ goes_to_empty board man m.from m.to
empty-man c board m man p ends there =
    let own : c ≡ man.colour = own-colour c board m man p there in
    comes-empty c man.kind board m p ends (there ∙ ap (λ (e : Colour). Some (record { colour = e; kind = man.kind })) (sym own))
    ∙ ap (λ (e : Colour). goes_to_empty board (record { colour = e; kind = man.kind }) m.from m.to) own

pub taking-man : (d : Colour) (j : Kind) (board : Places) (m : Move) (them : Man) → IsPlain board (opponent d) m → HasNoPawnOnEnds board → at board m.to ≡ Some them → goes_plainly (put_back board m (man d j)) (opponent d) m ≡ kind_attacks board them.colour them.kind m.from m.to
taking-man d j board m them p ends there =
    let own : opponent d ≡ them.colour = own-colour (opponent d) board m them p there in
    comes-taking d them.kind j board m p ends (there ∙ ap (λ (e : Colour). Some (record { colour = e; kind = them.kind })) (sym own))
    ∙ ap (λ (e : Colour). kind_attacks board e them.kind m.from m.to) own

-- an officer or a king goes so to an empty target as to a man
pub same-man : (d : Colour) (j : Kind) (board : Places) (m : Move) (them : Man) → IsPlain board (opponent d) m → HasNoPawnOnEnds board → at board m.to ≡ Some them → (them.kind ≡ Pawn → ⊥) → goes_plainly (put_back board m None) (opponent d) m ≡ goes_plainly (put_back board m (man d j)) (opponent d) m
same-man d j board m them p ends there officer =
    empty-man (opponent d) board m them p ends there ∙ by-attack board them.colour them.kind m.from m.to officer ∙ sym (taking-man d j board m them p ends there)

-- from the origin he attacks as on the board without him
pub strikes-man : (c : Colour) (board : Places) (m : Move) (king : ℕ) (man : Man) → king < 64 → IsPlain board c m → at board m.to ≡ Some man → attacks_from (put_back board m None) m.from king ≡ kind_attacks (set board m.to None) man.colour man.kind m.from king
unfolding attacks_from
strikes-man c board m king man inside p there =
    let before : Places = put_back board m None in
    let bare : Places = set board m.to None in
    let whole = p.whole in
    let small = p.to in
    ap (λ (o : Option Man). place_attacks before o m.from king) (at-origin board c m None p ∙ there)
    ∙ kind-between before bare man.colour man.kind m.from king p.from inside (λ x f k. elim (cases_eq x m.to) [
      | inl same ↦ ap is_empty (ap (at before) same ∙ at-target board c m None p) ∙ sym (ap is_empty (ap (at bare) same ∙ get_or-set_same board m.to None None (omega arith)))
      | inr t ↦ ap is_empty (at-other board m None x f t ∙ sym (get_or-set_other board m.to x None None t))
    ])

-- who attacks a square may go there on an empty board
pub attack-alone : (board : Places) (c : Colour) (k : Kind) (s t : ℕ) → kind_attacks board c k s t ≡ true → may_go_alone c k s t ≡ true
unfolding kind_attacks may_go_alone may_step king_distance
attack-alone board c Pawn s t h =
    let parts = and_parts _ _ h in
    let one : files_apart s t ≡ 1 = eqb-true _ 1 parts.1 in
    or_left _ _ (and_from _ _ parts.0 (lt-ltb (files_apart s t) 2 (omega arith)))
attack-alone board c Knight s t h = h
attack-alone board c Bishop s t h = (and_parts _ _ (and_parts _ _ h).0).1
attack-alone board c Rook s t h = (and_parts _ _ (and_parts _ _ h).0).1
attack-alone board c Queen s t h = (and_parts _ _ (and_parts _ _ h).0).1
attack-alone board c King s t h =
    let one : max (files_apart s t) (ranks_apart s t) ≡ 1 = eqb-true _ 1 h in
    and_from _ _ (lt-ltb (files_apart s t) 3 (omega arith)) (lt-ltb (ranks_apart s t) 2 (omega arith))
