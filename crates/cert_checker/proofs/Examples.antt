-- Trees that prove that no game reaches a query, and trees that don't.
use Rattle.std.proofs.Common.{◌≡◌, ◌==◌, ℕ, true, false, List, [], ◌∷◌, refl, ap, subst}
use Rattle.std.proofs.lemmas.Bool.{both_ways}
use Rattle.std.specs.Prelude.{None, slice_set}
use Rattle.std.specs.List.{Contains}
use Rattle.fen_text.proofs.FieldLemmas.{no_holds}
use Rattle.general_lemmas.proofs.Lists.{contains-first, contains-none}
use Rattle.board_base.specs.Board.{Places, array_of, at, initial_array, is_empty, is_of, man, no_men, no_odds}
use Rattle.board_base.proofs.Without.{are-no-odds}
use Rattle.board_base.specs.Rights.{no_rights}
use Rattle.board_base.specs.Attacks.{attacks, attacks_from, distance, kind_attacks, king_distance, on_the_way, toward}
use Rattle.board_base.specs.Play.{play}
use Rattle.board_base.specs.Legal.{in_check, king_castles, legal_on, man_moves, may_go, pawn_captures, pawn_captures_en_passant, pawn_doubles, pawn_steps, promotion_fits}
use Rattle.board_base.specs.declared.moves.Move.{Move}
use Rattle.board_base.specs.declared.men.Colour.TheVariants.{White, Black}
use Rattle.board_base.specs.declared.men.Kind.TheVariants.{Pawn}
use Rattle.board_base.specs.declared.unmoves.Unmove.{Unmove}
use Rattle.board_base.specs.declared.castles.Castle.TheVariants.{WhiteShort}
use Rattle.play_rules.specs.Kings.{kings}
use Rattle.play_rules.proofs.Games.{game_more, no_moves}
use Rattle.query_base.specs.Asked.{Asked}
use Rattle.query_base.specs.Reach.{Reaches}
use Rattle.query_base.specs.declared.rule_lines.RuleLine.TheVariants.{Kings}
use Rattle.cert_text.specs.declared.reasons.Reason.TheVariants.{Line}
use Rattle.query_base.proofs.Meeting.{reaches_nothing}
use Rattle.unmove_gen.specs.Listed.{is_listed, unmoves}
use Rattle.unmove_gen.specs.Predecessor.{unmove_after}
use Rattle.unmove_gen.proofs.Members.{list-passes}
use Rattle.unmove_gen.proofs.Parts.{parts}
use Rattle.unmove_gen.proofs.Taken.{listed_after}
use Rattle.sketch_body.specs.Bodies.{Body}
use Rattle.cert_text.specs.Tree.{Tree, Forest, rule, back, expand, sketch, none, more}
use Rattle.cert_checker.specs.Proving.{Proves}
use Rattle.board_base.proofs.KindsOfMen.{none-stand}

-- the board with White to move, and nothing demanded
abbrev asked : Places → Asked
asked board = record { board = board; turn = White; odds = no_odds; held = no_rights; only = None; barred = None; clock = None }

abbrev the_array : Asked
the_array = asked initial_array

-- the board without men has no kings, and so no game reaches it
kings_missing : Proves (rule (Line Kings)) (asked no_men) []
kings_missing = λ each. let missing : false ≡ true = ap (λ (n : ℕ). n == 1) (each White) in cc

-- nothing can be asked of its sketch
no_sketch : (b : Body) → Proves (sketch b) (asked no_men) [] → ⊥
no_sketch b proves = let missing : false ≡ true = ap (λ (n : ℕ). n == 1) (proves.2.asked.root.kings White) in cc

-- the array has its kings
kings_there : Proves (rule (Line Kings)) the_array [] → ⊥
unfolding initial_array
kings_there proves = proves (λ c. elim c as (λ d. kings d initial_array ≡ 1) [ White ↦ refl | Black ↦ refl ])

none_listed : (u : Unmove) → is_listed (asked no_men) u ≡ true → ⊥
none_listed u listed =
    let moved : is_of Black (at no_men u.mv.to) ≡ true = (parts _ u listed).target in
    let none : is_of Black (at no_men u.mv.to) ≡ false = ap (is_of Black) (none-stand 64 u.mv.to) in
    both_ways _ none moved

none_in : (us : List Unmove) → ((u : Unmove) → Contains us u → ⊥) → us ≡ []
none_in [] h = refl
none_in (u ∷ us) h = absurd (h u (contains-first u us))

-- nobody can have moved last on the board without men
none_moved : unmoves (asked no_men) ≡ []
none_moved = none_in _ (λ u among. none_listed u (list-passes _ u among))

-- so a node that has no children proves it too, since the array isn't without men
nobody_moved : Proves (expand none) (asked no_men) []
unfolding array_of initial_array
nobody_moved = (
  λ reached. let empty : false ≡ true = ap (λ (board : Places). is_empty (at board 0)) reached.board in cc,
  none_moved,
)

-- and a node with a child doesn't, whose label is no unmove of the query
stray_child : (u : Unmove) (tree : Tree) → Proves (expand (more u tree none)) (asked no_men) [] → ⊥
stray_child u tree proves = let one : unmoves (asked no_men) ≡ u ∷ proves.1.0 = proves.1.1 in cc (none_moved, one)

-- the game of no moves reaches the array, so no children prove that none does
array_reached : (kids : Forest) → Proves (expand kids) the_array [] → ⊥
unfolding array_of initial_array
array_reached kids proves = proves.0 (reaches_nothing the_array are-no-odds refl refl (λ x h. absurd (both_ways _ (no_holds x) h)) refl tt)

abbrev e2e4 : Move
e2e4 = record { from = 12; to = 28; promo = None }

-- the array with White's king's pawn on e4, and Black to move
abbrev after_e4 : Asked
after_e4 = record (asked (slice_set (slice_set initial_array 12 None) 28 (man White Pawn))) { turn = Black }

e4_reaches : Reaches (e2e4 ∷ []) after_e4
unfolding initial_array array_of attacks attacks_from kind_attacks distance toward on_the_way king_distance play legal_on may_go in_check promotion_fits man_moves pawn_steps pawn_doubles pawn_captures pawn_captures_en_passant king_castles
e4_reaches = record {
  odds = are-no-odds;
  game = game_more no_odds [] e2e4 (no_moves no_odds) refl;
  board = refl;
  turn = refl;
  held = λ x h. absurd (both_ways _ (no_holds x) h);
  only = tt;
  barred = tt;
  clock = tt;
}

-- its last move may have been e2e4, so a node that leaves this out proves nothing
left_out : Proves (expand none) after_e4 [] → ⊥
left_out proves = contains-none _ (subst (λ (us : List Unmove). Contains us (unmove_after no_odds [] e2e4)) proves.1 (listed_after [] e2e4 after_e4 e4_reaches))

-- the same position, where White's right to castle short is held
abbrev with_right : Asked
with_right = record after_e4 { held = record no_rights { white_short = true } }

-- a step back is a proof below the same query, or one that demands less; not below one that demands more, and not past the root
same_above : Proves (back 1) after_e4 (after_e4 ∷ [])
same_above = record { board = refl; turn = refl; odds = refl; held = λ x h. h; only = tt; barred = tt; clock = tt }

less_above : Proves (back 1) with_right (after_e4 ∷ [])
less_above = record { board = refl; turn = refl; odds = refl; held = λ x h. absurd (both_ways _ (no_holds x) h); only = tt; barred = tt; clock = tt }

more_above : Proves (back 1) after_e4 (with_right ∷ []) → ⊥
more_above proves = let held : false ≡ true = proves.held WhiteShort refl in cc

past_the_root : Proves (back 2) after_e4 (after_e4 ∷ []) → ⊥
past_the_root proves = proves
