-- In every game the pawns of a side have left their files by no more than they took men, and each by no more than he went ranks.
use Rattle.std.proofs.Common.{◌≡◌, ℕ, ◌+◌, ◌-◌, ◌<◌, ◌≤◌, ◌==◌, Bool, true, false, cond, ◌&&◌, not, inl, inr, List, [], length, refl, ap, sym, ◌∙◌, subst, arith}
use Rattle.std.proofs.lemmas.Bool.{and_parts, and_from, both_ways, cases_Bool, cond-true, cond-false, not-true, not_from_false, eqb-true, le-leb, leb-true}
use Rattle.std.proofs.lemmas.List.{length-append}
use Rattle.std.proofs.lemmas.List.Sums.{sum_by-le-sum_by}
use Rattle.std.specs.Prelude.{Option, Some, None, is_none}
use Rattle.std.specs.Option.{option_to_list}
use Rattle.std.specs.List.{sum_by, list_all, range_with_len}
use Rattle.board_base.specs.Board.{Places, array_of, initial_array, is_in, at, is_of, is_a, is_the, is_empty, opponent, file, rank}
use Rattle.board_base.specs.Attacks.{distance, files_apart, one_ahead}
use Rattle.board_base.specs.Play.{play, castling, goes_en_passant, rook_home}
use Rattle.board_base.specs.Legal.{is_officer, promotion_fits, pawn_rank}
use Rattle.board_base.specs.Game.{IsGame, board_after, turn_after, unmoved, last_move}
use Rattle.board_base.specs.declared.men.Colour.{Colour}
use Rattle.board_base.specs.declared.men.Colour.TheVariants.{White, Black}
use Rattle.board_base.specs.declared.men.Kind.{Kind}
use Rattle.board_base.specs.declared.men.Kind.TheVariants.{Pawn, Rook}
use Rattle.board_base.specs.declared.men.Man.{Man}
use Rattle.board_base.specs.declared.moves.Move.{Move}
use Rattle.board_base.specs.declared.castles.Castle.{Castle}
use Rattle.board_base.proofs.KindsOfMen.{another_kind, kind_is, colour_is, no_officer}
use Rattle.general_lemmas.proofs.Ranges.{all_in_range}
use Rattle.board_base.proofs.Without.{at-without, length-array}
use Rattle.board_base.proofs.CastleSquares.{rook_home-within}
use Rattle.play_rules.proofs.Legality.{Legality, legality}
use Rattle.play_rules.proofs.Games.{in_every_game, board_after-more}
use Rattle.play_rules.proofs.Kings.{within, length-after}
use Rattle.pawn_assign.specs.PawnCosts.{can_come}
use Rattle.men_account.specs.Labels.{Labels, label_at, first_labels, relabelled, labels_after, LabelsEachMan, HoldsOfEach}
use Rattle.men_account.specs.Captures.{taken_on, taken_by_pawn, captured_by_pawns, files_left, all_files_left, IsPawnFrom}
use Rattle.general_lemmas.proofs.SumsAmong.{value_at, sum-through, sum-both, at_only, only-there, sum-only}
use Rattle.men_account.proofs.Moved.{moved_from, moved_from-apart}
use Rattle.men_account.proofs.Labelled.{first-is, labels_after-more, length-labels, labels-each_man, labels-colours, labels-promotions}
use Rattle.men_account.proofs.Origins.{Origin, stays, goes, with_king, origin, Came, stayed, moved_here, with_the_king, before, promoted_man, in_each_game, rook-there}
use Rattle.men_account.proofs.PawnWays.{PawnWay, straight, aslant, pawn-way, Forward}
use Rattle.men_account.proofs.Captured.{same-side, captured-more}

-- the pawns begin on one rank
first-pawns : (c : Colour) → list_all (λ s. not (is_the c Pawn (at initial_array s) && not (rank s == pawn_rank c))) (range_with_len 0 64) ≡ true
unfolding initial_array
first-pawns White = refl
first-pawns Black = refl

kept-place : (b : Bool) (place : Option Man) (p : Option Man → Bool) → p None ≡ false → p (cond b None place) ≡ true → p place ≡ true
kept-place true place p none h = absurd (both_ways _ none h)
kept-place false place p none h = h

-- a man of the first board stands on the board
pub array-inside : (o : List Bool) (p : Option Man → Bool) (s : ℕ) → p None ≡ false → p (at (array_of o) s) ≡ true → s < 64
array-inside o p s none h = rw (← length-array o) (within p (array_of o) s none h)

-- what passes a test on the first board passes it in the initial array
pub array-of-initial : (o : List Bool) (p : Option Man → Bool) (s : ℕ) → p None ≡ false → p (at (array_of o) s) ≡ true → p (at initial_array s) ≡ true
unfolding array_of
array-of-initial o p s none h = kept-place (is_in o s) (at initial_array s) p none (sym (ap p (at-without o initial_array s)) ∙ h)

pub array-pawn : (o : List Bool) (c : Colour) (s : ℕ) → is_the c Pawn (at (array_of o) s) ≡ true → rank s ≡ pawn_rank c
array-pawn o c s pawn =
    let small : s < 64 = array-inside o (is_the c Pawn) s refl pawn in
    let here : is_the c Pawn (at initial_array s) ≡ true = array-of-initial o (is_the c Pawn) s refl pawn in
    let tested : not (is_the c Pawn (at initial_array s) && not (rank s == pawn_rank c)) ≡ true = all_in_range (λ t. not (is_the c Pawn (at initial_array t) && not (rank t == pawn_rank c))) 0 64 s (first-pawns c) (omega arith) (omega arith) in
    elim (cases_Bool (rank s == pawn_rank c)) [
      | inl home ↦ eqb-true _ _ home
      | inr other ↦ absurd (both_ways _ (not-true _ tested) (and_from _ _ here (not_from_false _ other)))
    ]

at-home : (c : Colour) (s : ℕ) → rank s ≡ pawn_rank c → can_come c s (file s) ≡ true
unfolding distance
at-home White s home = le-leb _ _ (omega arith)
at-home Black s home = le-leb _ _ (omega arith)

come-straight : (c : Colour) (s t f : ℕ) → file s ≡ file t → Forward c s t → can_come c s f ≡ true → can_come c t f ≡ true
unfolding distance
come-straight White s t f same up may = let old : (file s - f) + (f - file s) + 1 ≤ rank s = leb-true _ _ may in le-leb _ _ (omega arith)
come-straight Black s t f same down may = let old : (file s - f) + (f - file s) + rank s ≤ 6 = leb-true _ _ may in le-leb _ _ (omega arith)

come-aslant : (c : Colour) (s t f : ℕ) → files_apart s t ≡ 1 → one_ahead c s t ≡ true → can_come c s f ≡ true → can_come c t f ≡ true
unfolding distance
come-aslant White s t f one ahead may =
    let up : rank t ≡ rank s + 1 = eqb-true _ _ ahead in
    let old : (file s - f) + (f - file s) + 1 ≤ rank s = leb-true _ _ may in
    le-leb _ _ (omega arith)
come-aslant Black s t f one ahead may =
    let down : rank s ≡ rank t + 1 = eqb-true _ _ ahead in
    let old : (file s - f) + (f - file s) + rank s ≤ 6 = leb-true _ _ may in
    le-leb _ _ (omega arith)

still : (c : Colour) (promo : Option Kind) (man : Man) (pawn reaches : Bool) → elim promo as (λ _. Bool) [ None ↦ not (pawn && reaches) | Some k ↦ pawn && reaches && is_officer k ] ≡ true → is_the c Pawn (Some (promoted_man promo man)) ≡ true → is_the c Pawn (Some man) ≡ true
still c None man pawn reaches fits h = h
still c (Some k) man pawn reaches fits h = absurd (both_ways _ (no_officer Pawn k refl (and_parts _ _ fits).1) (and_parts _ _ h).1)

-- who is a pawn after his move was one before it, and has become nothing else
pub still-pawn : (board : Places) (c d : Colour) (m : Move) (man : Man) → promotion_fits board d m ≡ true → is_the c Pawn (Some (promoted_man m.promo man)) ≡ true → is_the c Pawn (Some man) ≡ true
unfolding promotion_fits
still-pawn board c d m man fits h = still c m.promo man (is_a Pawn (at board m.from)) _ fits h

-- the way of a pawn of this side
pub way-of : (board : Places) (c d : Colour) (rights : Castle → Bool) (last : Option Move) (m : Move) (man : Man) → Legality board d rights last m → at board m.from ≡ Some man → is_the c Pawn (Some man) ≡ true → PawnWay board c m
way-of board c d rights last m man legal there pawn =
    let here : is_the c Pawn (at board m.from) ≡ true = ap (is_the c Pawn) there ∙ pawn in
    let parts = and_parts (is_of c (at board m.from)) (is_a Pawn (at board m.from)) here in
    let side : d ≡ c = same-side d c (at board m.from) legal.mover parts.0 in
    subst (λ (x : Colour). PawnWay board x m) side (pawn-way board d rights last m parts.1 legal.on_board legal.manner)

come-on : (board : Places) (c : Colour) (m : Move) (f : ℕ) → PawnWay board c m → can_come c m.from f ≡ true → can_come c m.to f ≡ true
come-on board c m f (straight same on free) may = come-straight c m.from m.to f same on may
come-on board c m f (aslant one ahead enemy) may = come-aslant c m.from m.to f one ahead may

-- a rook is no pawn
pub rook-no-pawn : (c : Colour) (place : Option Man) (man : Man) → is_a Rook place ≡ true → place ≡ Some man → is_the c Pawn (Some man) ≡ true → ⊥
rook-no-pawn c place man rook there pawn =
    both_ways _ (another_kind Pawn Rook place rook) ((and_parts (is_of c place) (is_a Pawn place) (ap (is_the c Pawn) there ∙ pawn)).1)

-- each pawn stands where he can have come from his label's file
pub comes : (o : List Bool) (c : Colour) (g : List Move) → IsGame o g → HoldsOfEach (board_after o g) (labels_after o g) (λ s l man. is_the c Pawn (Some man) ≡ true → can_come c s (file l) ≡ true)
comes o c = in_each_game o (λ s l man. is_the c Pawn (Some man) ≡ true → can_come c s (file l) ≡ true)
    (λ s man there pawn. at-home c s (array-pawn o c s (ap (is_the c Pawn) there ∙ pawn)))
    (λ board d rights last m len legal. record {
      mover = λ l man there colours promotions before pawn.
          let was : is_the c Pawn (Some man) ≡ true = still-pawn board c d m man legal.promotion pawn in
          come-on board c m (file l) (way-of board c d rights last m man legal there was) (before was);
      rook = λ x l man castles rook there before pawn. absurd (rook-no-pawn c (at board (rook_home x)) man rook there pawn);
    })

-- the label of a pawn is the home of a pawn of his side
pub pawn-home : (o : List Bool) (c : Colour) (g : List Move) → IsGame o g → HoldsOfEach (board_after o g) (labels_after o g) (λ s l man. is_the c Pawn (Some man) ≡ true → is_the c Pawn (at (array_of o) l) ≡ true)
pawn-home o c g game s l man label there pawn =
    let parts = and_parts (is_of c (Some man)) (is_a Pawn (Some man)) pawn in
    let k : Pawn ≡ man.kind = kind_is Pawn man.kind parts.1 in
    let side : c ≡ man.colour = colour_is c man.colour parts.0 in
    let colour : is_of man.colour (at (array_of o) l) ≡ true = labels-colours o g game s l man label there in
    let kind : is_a man.kind (at (array_of o) l) ≡ true = elim (cases_Bool (is_a man.kind (at (array_of o) l))) [
      | inl same ↦ same
      | inr other ↦
          let was = labels-promotions o g game s l man label there other in
          absurd (both_ways false refl (ap is_officer k ∙ was.0))
    ] in
    and_from _ _ (subst (λ (x : Colour). is_of x (at (array_of o) l) ≡ true) (sym side) colour) (subst (λ (x : Kind). is_a x (at (array_of o) l) ≡ true) (sym k) kind)

pub pawns-from : (o : List Bool) (g : List Move) (c : Colour) → IsGame o g → HoldsOfEach (board_after o g) (labels_after o g) (IsPawnFrom (array_of o) c)
pawns-from o g c game s l man label there pawn =
    let home = pawn-home o c g game s l man label there pawn in
    (home, array-pawn o c l home, comes o c g game s l man label there pawn)

-- what a pawn of the side has left
pub left-pawn : (c : Colour) (place : Option Man) (label : Option ℕ) (s l : ℕ) → is_the c Pawn place ≡ true → label ≡ Some l → files_left c place label s ≡ files_apart s l
left-pawn c place label s l pawn e = ap (λ (x : Option ℕ). files_left c place x s) e ∙ cond-true _ (files_apart s l) 0 pawn

one-label : (c : Colour) (label : Option ℕ) (place : Option Man) → is_none label ≡ is_empty place → is_of c place ≡ true → length (option_to_list label) ≡ 1
one-label c None None same enemy = cc
one-label c None (Some man) same enemy = cc
one-label c (Some l) place same enemy = refl

-- a pawn that goes aside takes one man
taken-one : (c : Colour) (board : Places) (labels : Labels) (m : Move) → LabelsEachMan board labels → is_the c Pawn (at board m.from) ≡ true → is_of (opponent c) (at board (taken_on board m)) ≡ true → length (taken_by_pawn c board labels m) ≡ 1
taken-one c board labels m each pawn enemy =
    ap length (cond-true _ (option_to_list (label_at labels (taken_on board m))) [] pawn) ∙ one-label (opponent c) (label_at labels (taken_on board m)) (at board (taken_on board m)) (each (taken_on board m)) enemy

apart-by-one : (s t l : ℕ) → files_apart s t ≡ 1 → files_apart t l ≤ files_apart s l + 1
unfolding distance
apart-by-one s t l one = omega arith

left-way : (board : Places) (labels : Labels) (c : Colour) (m : Move) (s l old more : ℕ) → LabelsEachMan board labels → is_the c Pawn (at board m.from) ≡ true → old ≡ files_apart m.from l → files_apart s l ≡ files_apart m.to l → more ≡ length (taken_by_pawn c board labels m) → PawnWay board c m → files_apart s l ≤ old + more
left-way board labels c m s l old more each pawn was to added (straight same on free) =
    let e : files_apart m.from l ≡ files_apart m.to l = ap (λ (f : ℕ). distance f (file l)) same in
    omega arith
left-way board labels c m s l old more each pawn was to added (aslant one ahead enemy) =
    omega (arith, apart-by-one m.from m.to l one, taken-one c board labels m each pawn enemy)

left-bound : (c : Colour) (place : Option Man) (label : Option ℕ) (s bound : ℕ) → ((l : ℕ) (after : Man) → label ≡ Some l → place ≡ Some after → is_the c Pawn (Some after) ≡ true → files_apart s l ≤ bound) → files_left c place label s ≤ bound
left-bound c place None s bound h = omega arith
left-bound c None (Some l) s bound h = omega arith
left-bound c (Some after) (Some l) s bound h = elim (cases_Bool (is_the c Pawn (Some after))) [
  | inl pawn ↦ let most = h l after refl refl pawn in let e = cond-true _ (files_apart s l) 0 pawn in omega (arith, most, e)
  | inr other ↦ let e = cond-false _ (files_apart s l) 0 other in omega (arith, e)
]

-- what a man who came to s from u has left, and one more where the pawn that moved took a man
left-came : (board : Places) (labels : Labels) (c d : Colour) (rights : Castle → Bool) (last : Option Move) (m : Move) (u s l : ℕ) (after : Man) → LabelsEachMan board labels → Legality board d rights last m → is_the c Pawn (Some after) ≡ true → Came board labels m u s l after → files_apart s l ≤ files_left c (at board u) (label_at labels u) u + at_only m.to (length (taken_by_pawn c board labels m)) s
left-came board labels c d rights last m u s l after each legal pawn (stayed same a b label there) =
    let e : files_left c (at board u) (label_at labels u) u ≡ files_apart s l =
    ap (λ (t : ℕ). files_left c (at board t) (label_at labels t) t) same ∙ left-pawn c (at board s) (label_at labels s) s l (ap (is_the c Pawn) there ∙ pawn) label in
    omega arith
left-came board labels c d rights last m u s l after each legal pawn (with_the_king x castles a b label there) =
    let rook = rook-there board d rights last m x castles legal in
    absurd (rook-no-pawn c (at board (rook_home x)) after rook there pawn)
left-came board labels c d rights last m u s l after each legal pawn (moved_here man a b label there is) =
    let was : is_the c Pawn (Some man) ≡ true = still-pawn board c d m man legal.promotion (ap (λ (k : Man). is_the c Pawn (Some k)) (sym is) ∙ pawn) in
    let here : is_the c Pawn (at board m.from) ≡ true = ap (is_the c Pawn) there ∙ was in
    let e : files_left c (at board u) (label_at labels u) u ≡ files_apart m.from l =
    ap (λ (t : ℕ). files_left c (at board t) (label_at labels t) t) a ∙ left-pawn c (at board m.from) (label_at labels m.from) m.from l here label in
    let to : files_apart s l ≡ files_apart m.to l = ap (λ (t : ℕ). files_apart t l) b in
    let added : at_only m.to (length (taken_by_pawn c board labels m)) s ≡ length (taken_by_pawn c board labels m) = only-there m.to (length (taken_by_pawn c board labels m)) s b in
    left-way board labels c m s l (files_left c (at board u) (label_at labels u) u) (at_only m.to (length (taken_by_pawn c board labels m)) s) each here e to added (way-of board c d rights last m man legal there was)

-- on each square
left-each : (board : Places) (labels : Labels) (c d : Colour) (rights : Castle → Bool) (last : Option Move) (m : Move) → length board ≡ 64 → length labels ≡ 64 → LabelsEachMan board labels → Legality board d rights last m → (s : ℕ) → files_left c (at (play board m) s) (label_at (relabelled board labels m) s) s ≤ value_at (λ t. files_left c (at board t) (label_at labels t) t) (moved_from m (castling board m) (goes_en_passant board m) s) + at_only m.to (length (taken_by_pawn c board labels m)) s
left-each board labels c d rights last m len size each legal s =
    let bound : ℕ = value_at (λ t. files_left c (at board t) (label_at labels t) t) (moved_from m (castling board m) (goes_en_passant board m) s) + at_only m.to (length (taken_by_pawn c board labels m)) s in
    left-bound c (at (play board m) s) (label_at (relabelled board labels m) s) s bound (λ l after label there pawn.
    let was = before board labels d rights last m len size legal s l after label there in
    let most = left-came board labels c d rights last m was.square s l after each legal pawn was.came in
    let e : value_at (λ t. files_left c (at board t) (label_at labels t) t) (moved_from m (castling board m) (goes_en_passant board m) s) ≡ files_left c (at board was.square) (label_at labels was.square) was.square = ap (value_at (λ t. files_left c (at board t) (label_at labels t) t)) was.led in
    omega (arith, most, e))

-- where a man led from stood on the board
pub led-inside : (m : Move) (castle : Option Castle) (s u : ℕ) → m.from < 64 → s < 64 → Origin m castle u s → u < 64
led-inside m castle s u f small (stays same a b) = omega arith
led-inside m castle s u f small (goes from to) = omega arith
led-inside m castle s u f small (with_king x castles from to) = omega (arith, rook_home-within x)

left-moved : (board : Places) (labels : Labels) (c d : Colour) (rights : Castle → Bool) (last : Option Move) (m : Move) → length board ≡ 64 → length labels ≡ 64 → LabelsEachMan board labels → Legality board d rights last m → all_files_left c (play board m) (relabelled board labels m) ≤ all_files_left c board labels + length (taken_by_pawn c board labels m)
unfolding all_files_left
left-moved board labels c d rights last m len size each legal =
    let old : ℕ → ℕ = λ s. files_left c (at board s) (label_at labels s) s in
    let new : ℕ → ℕ = λ s. files_left c (at (play board m) s) (label_at (relabelled board labels m) s) s in
    let led : ℕ → Option ℕ = moved_from m (castling board m) (goes_en_passant board m) in
    let k : ℕ = length (taken_by_pawn c board labels m) in
    let f : m.from < 64 = rw (← len) (within (is_of d) board m.from refl legal.mover) in
    let most = sum_by-le-sum_by new (λ s. value_at old (led s) + at_only m.to k s) (range_with_len 0 64) (left-each board labels c d rights last m len size each legal) in
    let parts = sum-both (λ s. value_at old (led s)) (at_only m.to k) (range_with_len 0 64) in
    let through = sum-through old led 64 64 (moved_from-apart m (castling board m) (goes_en_passant board m)) (λ s u small h. led-inside m (castling board m) s u f small (origin board m (castling board m) (goes_en_passant board m) s u refl h)) in
    omega (arith, most, parts, through, sum-only m.to k 64)

own-file : (s l : ℕ) → s ≡ l → files_apart s l ≤ 0
unfolding distance
own-file s l e = omega arith

first-left : (o : List Bool) (c : Colour) → all_files_left c (array_of o) (first_labels o) ≤ 0
unfolding all_files_left
first-left o c =
    let none = sum_by-le-sum_by (λ s. files_left c (at (array_of o) s) (label_at (first_labels o) s) s) (λ _. 0) (range_with_len 0 64) (λ s. left-bound c (at (array_of o) s) (label_at (first_labels o) s) s 0 (λ l after label there pawn. own-file s l (first-is o s l label))) in
    let zeros : sum_by (λ (_ : ℕ). 0) (range_with_len 0 64) ≡ 0 = refl in
    omega arith

-- in every game
pub left-after : (o : List Bool) (c : Colour) (g : List Move) → IsGame o g → all_files_left c (board_after o g) (labels_after o g) ≤ length (captured_by_pawns o g c)
left-after o c = in_every_game o (λ g. all_files_left c (board_after o g) (labels_after o g) ≤ length (captured_by_pawns o g c))
    (first-left o c)
    (λ g m game allowed before.
    let one = left-moved (board_after o g) (labels_after o g) c (turn_after g) (unmoved o g) (last_move g) m (length-after o g game) (length-labels o g game) (labels-each_man o g game) (legality _ _ _ _ _ allowed) in
    let joined = length-append (captured_by_pawns o g c) (taken_by_pawn c (board_after o g) (labels_after o g) m) in
    rw (board_after-more o g m) (rw (labels_after-more o g m) (rw (captured-more o g m c) (omega (arith, one, joined, before)))))
