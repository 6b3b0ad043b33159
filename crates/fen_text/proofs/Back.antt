-- The text of a query is read as that query.
use Rattle.std.proofs.Common.{◌≡◌, ℕ, zero, suc, ◌+◌, ◌-◌, ◌*◌, ◌/◌, ◌<◌, ◌≤◌, ◌==◌, Bool, true, false, ◌&&◌, not, List, [], ◌∷◌, ◌++◌, length, take, drop, replicate, refl, sym, ap, ◌∙◌, arith, append_assoc, append-nil, length-drop, zero-add, take_all, Option, Some, None, is_some, is_none, IsTrue}
use Rattle.std.proofs.lemmas.Bool.{and_parts, and_from, and_right, le-leb, cond-true, eq-eqb, eqb-true}
use Rattle.std.proofs.lemmas.List.{replicate_more, length-take-le}
use Rattle.std.proofs.lemmas.List.Folds.{list_all-append}
use Rattle.std.proofs.lemmas.Grind.{flat_map-append}
use Rattle.std.proofs.Math.Seq.{take-add}
use Rattle.std.specs.List.{list_all}
use Rattle.std.specs.Option.{option_map}
use Rattle.board_base.proofs.Equal.{none_is}
use Rattle.board_base.specs.Board.{Places, file, no_odds}
use Rattle.board_base.specs.Rights.{Rights}
use Rattle.board_base.specs.declared.men.Colour.{Colour}
use Rattle.board_base.specs.declared.men.Colour.TheVariants.{White, Black}
use Rattle.board_base.specs.declared.men.Kind.{Kind}
use Rattle.board_base.specs.declared.men.Kind.TheVariants.{Pawn, Knight, Bishop, Rook, Queen, King}
use Rattle.board_base.specs.declared.moves.Move.{Move}
use Rattle.query_base.specs.Asked.{Asked, is_of_other_side}
use Rattle.board_base.specs.Texts.{◌>>=◌}
use Rattle.fen_text.specs.Ranks.{is_run, places_of, is_symbol, runs_apart, rank_places, is_rank, rank}
use Rattle.fen_text.specs.Fen.{ranks, placement, turn, rights, en_passant, en_passant_digit, double_on, asked, from_numbers, from_en_passant, from_rights, from_turn, fen}
use Rattle.fen_text.specs.Spelling.{symbol, run_text, rank_text, turn_letter, rights_text, en_passant_text, spelling}
use Rattle.fen_text.specs.WrittenParts.{rank_of, ranks_text}
use Rattle.fen_text.proofs.Spelled.{passed, spelled}
use Rattle.fen_text.proofs.PartLemmas.{parted_next, parted_end}
use Rattle.fen_text.proofs.RankLemmas.{run_places, run_symbol}
use Rattle.fen_text.proofs.PlacementLemmas.{clean_rank, slash_symbol}
use Rattle.fen_text.proofs.FieldLemmas.{clean_turn, clean_rights, clean_en_passant}
use Rattle.fen_text.proofs.Stages.{clean_placement}

letter_places : (c : Colour) (k : Kind) → places_of (symbol c k) ≡ Some (record { colour = c; kind = k }) ∷ []
unfolding places_of
letter_places White Pawn = refl
letter_places White Knight = refl
letter_places White Bishop = refl
letter_places White Rook = refl
letter_places White Queen = refl
letter_places White King = refl
letter_places Black Pawn = refl
letter_places Black Knight = refl
letter_places Black Bishop = refl
letter_places Black Rook = refl
letter_places Black Queen = refl
letter_places Black King = refl

letter_good : (c : Colour) (k : Kind) → (is_symbol (symbol c k) ≡ true) × (is_run (symbol c k) ≡ false)
unfolding is_symbol
letter_good White Pawn = (refl, refl)
letter_good White Knight = (refl, refl)
letter_good White Bishop = (refl, refl)
letter_good White Rook = (refl, refl)
letter_good White Queen = (refl, refl)
letter_good White King = (refl, refl)
letter_good Black Pawn = (refl, refl)
letter_good Black Knight = (refl, refl)
letter_good Black Bishop = (refl, refl)
letter_good Black Rook = (refl, refl)
letter_good Black Queen = (refl, refl)
letter_good Black King = (refl, refl)

run_good : (n : ℕ) → n < 8 → is_run (49 + n) ≡ true
run_good n low = and_from _ _ (le-leb 49 (49 + n) (omega arith)) (le-leb (49 + n) 56 (omega arith))

run_back : (k : ℕ) → k ≤ 8 → rank_places (run_text k) ≡ replicate k None
run_back zero few = refl
run_back (suc n) few = append-nil _ ∙ run_places (49 + n) (run_good n (omega arith)) ∙ ap (λ (j : ℕ). replicate j None) (let e : 49 + n - 48 ≡ suc n = omega arith in e)

run_symbols : (k : ℕ) → k ≤ 8 → list_all is_symbol (run_text k) ≡ true
run_symbols zero few = refl
run_symbols (suc n) few = and_from _ _ (run_symbol (49 + n) (run_good n (omega arith))) refl

places_back : (ps : Places) (k : ℕ) → k + length ps ≤ 8 → rank_places (rank_text k ps) ≡ replicate k None ++ ps
places_back [] k few = run_back k (omega arith) ∙ sym (append-nil _)
places_back (None ∷ ps) k few = places_back ps (k + 1) (omega arith) ∙ ap (λ (l : Places). l ++ ps) (sym (replicate_more k None)) ∙ append_assoc (replicate k None) (None ∷ []) ps
places_back (Some m ∷ ps) k few =
    flat_map-append places_of (run_text k) (symbol m.colour m.kind ∷ rank_text 0 ps)
    ∙ ap (λ (l : Places). l ++ (places_of (symbol m.colour m.kind) ++ rank_places (rank_text 0 ps))) (run_back k (omega arith))
    ∙ ap (λ (l : Places). replicate k None ++ (l ++ rank_places (rank_text 0 ps))) (letter_places m.colour m.kind)
    ∙ ap (λ (l : Places). replicate k None ++ Some m ∷ l) (places_back ps 0 (omega arith))

symbols_back : (ps : Places) (k : ℕ) → k + length ps ≤ 8 → list_all is_symbol (rank_text k ps) ≡ true
symbols_back [] k few = run_symbols k (omega arith)
symbols_back (None ∷ ps) k few = symbols_back ps (k + 1) (omega arith)
symbols_back (Some m ∷ ps) k few =
    list_all-append is_symbol (run_text k) (symbol m.colour m.kind ∷ rank_text 0 ps)
    ∙ and_from _ _ (run_symbols k (omega arith)) (and_from _ _ ((letter_good m.colour m.kind).0) (symbols_back ps 0 (omega arith)))

letter_next : (c : Colour) (k : Kind) (text : List ℕ) → runs_apart false text ≡ true → runs_apart (is_run (symbol c k)) text ≡ true
letter_next c k text e = ap (λ (b : Bool). runs_apart b text) ((letter_good c k).1) ∙ e

apart_run : (n : ℕ) (c : Colour) (k : Kind) (text : List ℕ) → runs_apart false text ≡ true → runs_apart false (run_text n ++ symbol c k ∷ text) ≡ true
apart_run zero c k text e = letter_next c k text e
apart_run (suc n) c k text e = and_from _ _ (ap not (and_right (is_run (49 + n)) _ ((letter_good c k).1))) (letter_next c k text e)

apart_back : (ps : Places) (k : ℕ) → runs_apart false (rank_text k ps) ≡ true
apart_back [] zero = refl
apart_back [] (suc n) = refl
apart_back (None ∷ ps) k = apart_back ps (k + 1)
apart_back (Some m ∷ ps) k = apart_run k m.colour m.kind (rank_text 0 ps) (apart_back ps 0)

rank_back : (ps : Places) → length ps ≡ 8 → rank (rank_text 0 ps) ≡ Some ps
unfolding rank
rank_back ps eight =
    let back = places_back ps 0 (omega arith) in
    let good : is_rank (rank_text 0 ps) ≡ true = and_from _ _ (and_from _ _ (symbols_back ps 0 (omega arith)) (apart_back ps 0)) (eq-eqb _ 8 (zero-add _ ∙ ap length back ∙ eight)) in
    cond-true _ (Some (rank_places (rank_text 0 ps))) None good ∙ ap (λ (l : Places). Some l) back

known : {A : Type 0} (o : Option A) (x : A) → o ≡ Some x → IsTrue (is_some o)
known o x e = ap is_some e

rank_of_length : (n : ℕ) (board : Places) → n < 8 → length board ≡ 64 → length (rank_of n board) ≡ 8
rank_of_length n board low size = length-take-le 8 (drop (8 * n) board) (omega (arith, length-drop (8 * n) board))

ranks_back : (n : ℕ) (board : Places) → n < 8 → length board ≡ 64 → ranks n (ranks_text n board) ≡ Some (take (8 * n + 8) board)
unfolding ranks ranks_text
ranks_back zero board low size = rank_back (rank_of 0 board) (rank_of_length 0 board (omega arith) size)
ranks_back (suc n) board low size =
    let r : Places = rank_of (suc n) board in
    let good : rank (rank_text 0 r) ≡ Some r = rank_back r (rank_of_length (suc n) board low size) in
    let sum : 8 * n + 8 ≡ 8 * suc n = omega arith in
    let split : take (8 * suc n + 8) board ≡ take (8 * n + 8) board ++ r = take-add (8 * suc n) 8 board ∙ ap (λ (k : ℕ). take k board ++ r) (sym sum) in
    parted_next 47 rank (λ x. None) (λ r below. option_map (λ (places : Places). places ++ r) (ranks n below)) (rank_text 0 r) (ranks_text n board) (clean_rank 47 slash_symbol (rank_text 0 r) (known _ _ good))
    ∙ ap (λ (o : Option Places). o >>= (λ r. option_map (λ (places : Places). places ++ r) (ranks n (ranks_text n board)))) good
    ∙ ap (λ (o : Option Places). option_map (λ (places : Places). places ++ r) o) (ranks_back n board (omega arith) size)
    ∙ ap (λ (l : Places). Some l) (sym split)

placement_back : (board : Places) → length board ≡ 64 → placement (ranks_text 7 board) ≡ Some board
unfolding placement
placement_back board size = ranks_back 7 board (omega arith) size ∙ ap (λ (l : Places). Some l) (take_all 64 board (omega arith))

turn_back : (t : Colour) → turn (turn_letter t ∷ []) ≡ Some t
turn_back White = refl
turn_back Black = refl

flags_back : (k q kk qq : Bool) → rights (rights_text (record { white_short = k; white_long = q; black_short = kk; black_long = qq })) ≡ Some (record { white_short = k; white_long = q; black_short = kk; black_long = qq })
unfolding rights
flags_back false false false false = refl
flags_back false false false true = refl
flags_back false false true false = refl
flags_back false false true true = refl
flags_back false true false false = refl
flags_back false true false true = refl
flags_back false true true false = refl
flags_back false true true true = refl
flags_back true false false false = refl
flags_back true false false true = refl
flags_back true false true false = refl
flags_back true false true true = refl
flags_back true true false false = refl
flags_back true true false true = refl
flags_back true true true false = refl
flags_back true true true true = refl

rights_back : (r : Rights) → rights (rights_text r) ≡ Some r
rights_back r = flags_back r.white_short r.white_long r.black_short r.black_long

same_move : (from to : ℕ) (promo : Option Kind) (m : Move) → m.from ≡ from → m.to ≡ to → m.promo ≡ promo → m ≡ record { from = from; to = to; promo = promo }
same_move from to promo m e1 e2 e3 = λ i. record { from = e1 i; to = e2 i; promo = e3 i }

step_back : (c : Colour) (m : Move) → IsTrue (is_of_other_side c (Some m)) → (file m.to < 8) × (double_on c (97 + file m.to - 97) ≡ m)
step_back White m fits =
    let a = and_parts ((m.from / 8 == 6) && (m.to == m.from - 8 - 8)) (is_none m.promo) fits in
    let b = and_parts (m.from / 8 == 6) (m.to == m.from - 8 - 8) a.0 in
    let e1 = eqb-true (m.from / 8) 6 b.0 in
    let e2 = eqb-true m.to (m.from - 8 - 8) b.1 in
    (omega arith, sym (same_move (40 + (97 + file m.to - 97) + 8) (40 + (97 + file m.to - 97) - 8) None m (omega arith) (omega arith) (none_is m.promo a.1)))
step_back Black m fits =
    let a = and_parts ((m.from / 8 == 1) && (m.to == m.from + 8 + 8)) (is_none m.promo) fits in
    let b = and_parts (m.from / 8 == 1) (m.to == m.from + 8 + 8) a.0 in
    let e1 = eqb-true (m.from / 8) 1 b.0 in
    let e2 = eqb-true m.to (m.from + 8 + 8) b.1 in
    (omega arith, sym (same_move (16 + (97 + file m.to - 97) - 8) (16 + (97 + file m.to - 97) + 8) None m (omega arith) (omega arith) (none_is m.promo a.1)))

en_passant_back : (c : Colour) (e : Option Move) → IsTrue (is_of_other_side c e) → en_passant c (en_passant_text c e) ≡ Some e
en_passant_back c None fits = refl
en_passant_back c (Some m) fits =
    let back = step_back c m fits in
    let low = back.0 in
    ap (en_passant c) (passed c m) ∙ cond-true _ (Some (Some (double_on c (97 + file m.to - 97)))) None (and_from _ _ (and_from _ _ (le-leb 97 (97 + file m.to) (omega arith)) (le-leb (97 + file m.to) 104 (omega arith))) (eq-eqb (en_passant_digit c) (en_passant_digit c) refl))
    ∙ ap (λ (x : Move). Some (Some x)) back.1

pub text_back : (b : Places) (t : Colour) (r : Rights) (e : Option Move) → length b ≡ 64 → IsTrue (is_of_other_side t e) → fen (ranks_text 7 b ++ 32 ∷ turn_letter t ∷ 32 ∷ (rights_text r ++ 32 ∷ en_passant_text t e)) ≡ Some (asked b t r e, None)
unfolding fen from_turn from_rights from_en_passant
text_back b t r e size fits =
    let p4 : List ℕ = en_passant_text t e in
    let p3 : List ℕ = rights_text r ++ 32 ∷ p4 in
    let p2 : List ℕ = turn_letter t ∷ 32 ∷ p3 in
    let g1 = placement_back b size in
    let g3 = rights_back r in
    let g4 = en_passant_back t e fits in
    parted_next 32 placement (λ x. None) from_turn (ranks_text 7 b) p2 (clean_placement (ranks_text 7 b) (known _ _ g1))
    ∙ ap (λ (o : Option Places). o >>= (λ x. from_turn x p2)) g1
    ∙ parted_next 32 turn (λ x. None) (from_rights b) (turn_letter t ∷ []) p3 (clean_turn (turn_letter t ∷ []) (known _ _ (turn_back t)))
    ∙ ap (λ (o : Option Colour). o >>= (λ x. from_rights b x p3)) (turn_back t)
    ∙ parted_next 32 rights (λ x. None) (from_en_passant b t) (rights_text r) p4 (clean_rights (rights_text r) (known _ _ g3))
    ∙ ap (λ (o : Option Rights). o >>= (λ x. from_en_passant b t x p4)) g3
    ∙ parted_end 32 (en_passant t) (λ e. Some (asked b t r e, None)) (λ e. from_numbers (asked b t r e)) p4 (clean_en_passant t p4 (known _ _ g4))
    ∙ ap (λ (o : Option (Option Move)). o >>= (λ e. Some (asked b t r e, None))) g4

pub whole : (q : Asked) → q.barred ≡ None → asked q.board q.turn q.held q.only ≡ record q { odds = no_odds; clock = None }
whole q e = λ i. record { board = q.board; turn = q.turn; odds = no_odds; held = q.held; only = q.only; barred = sym e i; clock = None }

pub read_back : (q : Asked) → length q.board ≡ 64 → q.barred ≡ None → IsTrue (is_of_other_side q.turn q.only) → fen (spelling q) ≡ Some (record q { odds = no_odds; clock = None }, None)
read_back q size plain fits = ap fen (spelled q) ∙ text_back q.board q.turn q.held q.only size fits ∙ ap (λ (x : Asked). Some (x, None)) (whole q plain)
