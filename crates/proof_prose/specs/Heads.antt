-- The diagram, the claim and what is supposed.
use Rattle.std.specs.Prelude.{ℕ, ◌+◌, ◌*◌, ◌==◌, Bool, cond, ◌||◌, ◌&&◌, not, List, [], ◌∷◌, ◌++◌, codes, length, Option, Some, None, is_some}
use Rattle.std.specs.List.{flat_map, range_with_len}
use Rattle.std.specs.Fmt.{decimal}
use Rattle.board_base.specs.Board.{Places, at, is_in}
use Rattle.board_base.specs.declared.castles.Castle.TheVariants.{WhiteShort, WhiteLong, BlackShort, BlackLong}
use Rattle.board_base.specs.Play.{double_of, king_home, rook_home, side}
use Rattle.board_base.specs.Rights.{holds}
use Rattle.board_base.specs.Texts.{square_text}
use Rattle.board_base.specs.declared.men.Colour.{Colour}
use Rattle.board_base.specs.declared.men.Kind.{Kind}
use Rattle.board_base.specs.declared.men.Man.{Man}
use Rattle.board_base.specs.declared.moves.Move.{Move}
use Rattle.board_base.specs.declared.castles.Castle.{Castle}
use Rattle.cert_text.specs.Lines.{ended}
use Rattle.ep_history.specs.Fits.{ep_fits}
use Rattle.fen_text.specs.OddsLines.{is_no_odds}
use Rattle.query_base.specs.Asked.{Asked}
use Rattle.query_base.specs.declared.claims.Claim.{Claim}
use Rattle.query_base.specs.declared.claims.Claim.TheVariants.{Illegal, Last, Lost, Ep}
use Rattle.proof_story.specs.Movers.{became, mover_initial}
use Rattle.proof_story.specs.Rows.{rows_of}
use Rattle.proof_sentences.specs.Phrases.{unmoved_words}
use Rattle.prose_words.specs.Words.{kind_word, place_letter, side_word, squares_words, wing_word}

-- a place of the diagram after a space
abbrev pub place_text : Places → ℕ → List ℕ
place_text board s = 32 ∷ place_letter (at board s) ∷ []

-- a rank of the diagram: its digit, and its places from file a to file h
unfoldable pub rank_text : Places → ℕ → List ℕ
rank_text board r = (49 + r) ∷ flat_map (λ f. place_text board (8 * r + f)) (range_with_len 0 8)

-- a rank with a line end
abbrev pub rank_line : Places → ℕ → List ℕ
rank_line board r = rank_text board r ++ 10 ∷ []

-- the upper half of the diagram
unfoldable pub upper_text : Places → List ℕ
upper_text board = rank_line board 7 ++ rank_line board 6 ++ rank_line board 5 ++ rank_line board 4

-- the lower half of the diagram, with the side to move behind it
unfoldable pub lower_text : Places → Colour → List ℕ
lower_text board turn =
    rank_line board 3 ++ rank_line board 2 ++ rank_line board 1 ++ rank_text board 0 ++ codes "     " ++ side_word turn ++ ended (codes " to move")

-- the diagram from rank 8 down to rank 1, with the side to move behind it
unfoldable pub diagram_text : Places → Colour → List ℕ
diagram_text board turn = ended (codes "  a b c d e f g h") ++ upper_text board ++ lower_text board turn

-- that the men of these squares were left out, or the man of one
abbrev pub left_out : List ℕ → List ℕ
left_out list = codes "The game began without the " ++ cond (length list == 3) (codes "man of") (codes "men of") ++ list ++ ended (codes ".")

-- the squares whose men were left out
abbrev pub odds_line : List Bool → List ℕ
odds_line odds = left_out (squares_words (is_in odds))

-- the same in rows
abbrev pub odds_words : List Bool → List ℕ
odds_words odds = rows_of (odds_line odds)

-- the squares whose men were left out, if any were
abbrev pub odds_given : List Bool → List ℕ
odds_given odds = cond (is_no_odds odds) [] (odds_words odds)

-- what the half-move clock is
abbrev pub clock_words : ℕ → List ℕ
clock_words n = codes "Half-moves since the last capture or move of a pawn: " ++ decimal n ++ ended (codes ".")

-- the half-move clock, if it is given
abbrev pub clock_given : Option ℕ → List ℕ
clock_given None = []
clock_given (Some n) = clock_words n

-- that it is given what the last move was
abbrev pub last_words : Move → List ℕ
last_words m = codes "It is given that the last move was " ++ square_text m.from ++ codes "-" ++ square_text m.to ++ ended (codes ".")

-- the double step that was the last move, if it is given
abbrev pub only_given : Option Move → List ℕ
only_given None = []
only_given (Some m) = last_words m

-- that a right to castle is given
abbrev pub right_words : Castle → List ℕ
right_words x = codes "It is given that " ++ unmoved_words x ++ ended (codes ".")

-- a right to castle, if it is given
abbrev pub right_given : Bool → Castle → List ℕ
right_given given x = cond given (right_words x) []

-- that both rights to castle of a side are given, whose king and rooks stood on these squares
unfoldable pub both_stayed : ℕ → ℕ → ℕ → List ℕ
both_stayed king long short =
    codes "It is given that the king of " ++ square_text king ++ codes " and the rooks of " ++ square_text long ++ codes " and " ++ square_text short ++ ended (codes " never moved, and neither rook was taken.")

-- that both rights to castle of a side are given
abbrev pub both_words : Castle → Castle → List ℕ
both_words short long = both_stayed (king_home short) (rook_home long) (rook_home short)

-- what is given of two rights to castle of one side: both in one sentence, or one
abbrev pub both_given : Bool → Bool → Castle → Castle → List ℕ
both_given has_short has_long short long =
    cond (has_short && has_long) (both_words short long) (right_given has_short short ++ right_given has_long long)

-- what is given beside the diagram
abbrev pub givens_text : Asked → List ℕ
givens_text q =
    odds_given q.odds ++ clock_given q.clock ++ only_given q.only ++ both_given (holds q.held WhiteShort) (holds q.held WhiteLong) WhiteShort WhiteLong ++ both_given (holds q.held BlackShort) (holds q.held BlackLong) BlackShort BlackLong

-- some castling is held
abbrev pub has_rights : Asked → Bool
has_rights q = holds q.held WhiteShort || holds q.held WhiteLong || holds q.held BlackShort || holds q.held BlackLong

-- something is given beside the diagram
abbrev pub has_givens : Asked → Bool
has_givens q = not (is_no_odds q.odds) || is_some q.clock || is_some q.only || has_rights q

-- the diagram with what is given
abbrev pub given_words : Asked → List ℕ
given_words q = cond (has_givens q) (codes " with what is given below it") []

-- a move that led to this board, in long notation, with this sign between its squares
abbrev pub move_words : Places → Move → ℕ → List ℕ
move_words board m sign = mover_initial (at board m.to) m.promo ++ square_text m.from ++ sign ∷ square_text m.to ++ became m.promo

-- that a pawn was promoted
abbrev pub promotion_words : Option Kind → List ℕ
promotion_words None = []
promotion_words (Some k) = codes ", becoming a " ++ kind_word k

-- a move whose captured man, if there is one, isn't told
abbrev pub going_words : Move → List ℕ
going_words m = codes "went from " ++ square_text m.from ++ codes " to " ++ square_text m.to ++ promotion_words m.promo ++ codes ", capturing or not"

-- that a castling is lost
abbrev pub lost_words : Castle → List ℕ
lost_words x = side_word (side x) ++ codes " has lost the right to castle on the " ++ wing_word x ++ codes " side"

-- that a capture en passant is legal
abbrev pub legal_words : Move → List ℕ
legal_words m = codes "the capture " ++ square_text m.from ++ codes "x" ++ square_text m.to ++ codes " en passant is legal"

-- what is claimed, in words
abbrev pub claim_words : Claim → Asked → List ℕ
claim_words Illegal q = codes "no game leads to this diagram" ++ given_words q
claim_words (Last m) q = codes "the last move " ++ going_words m
claim_words (Lost x) q = lost_words x
claim_words (Ep m) q = legal_words m

-- that the last move wasn't this one
abbrev pub not_words : Move → List ℕ
not_words d = codes "the last move was not " ++ square_text d.from ++ codes "-" ++ square_text d.to

-- that some game leads to the diagram with what is given
abbrev pub reached_words : Asked → List ℕ
reached_words q = codes "a game leads to this diagram" ++ given_words q

-- that the last move wasn't the double step that a capture en passant answers
abbrev pub other_words : Option Move → Asked → List ℕ
other_words None q = reached_words q
other_words (Some d) q = not_words d

-- that the king and the rook of a castling are what they were
abbrev pub kept_words : Castle → List ℕ
kept_words x = side_word (side x) ++ codes " still has the right: king and rook never moved, and the rook was never taken"

-- what is supposed against the claim, in words
abbrev pub supposed_words : Claim → Asked → List ℕ
supposed_words Illegal q = cond (has_givens q) (codes "one does") (codes "a game leads to it")
supposed_words (Last m) q = codes "the last move was another"
supposed_words (Lost x) q = kept_words x
supposed_words (Ep m) q = cond (ep_fits q.board q.turn m) (other_words (double_of m q.turn) q) (reached_words q)

-- the diagram, and what is given beside it
abbrev pub drawn_text : Asked → List ℕ
drawn_text q = diagram_text q.board q.turn ++ givens_text q

-- the claim, and what is supposed
abbrev pub supposition_text : Claim → Asked → List ℕ
supposition_text claim q =
    codes "Claim: " ++ claim_words claim q ++ ended (codes ".") ++ codes "Suppose that " ++ supposed_words claim q ++ ended (codes ".")

-- the last line, which states the claim again
abbrev pub closing_text : Claim → Asked → List ℕ
closing_text claim q = codes "So " ++ claim_words claim q ++ ended (codes ". QED")
