-- The grammar of algebraic notation: what a text says of a move, by its bytes.
use Rattle.std.specs.Prelude.{ℕ, ◌-◌, Bool, true, false, cond, ◌&&◌, ◌||◌, ◌==◌, nat_le, List, [], ◌∷◌, Option, Some, None, is_some}
use Rattle.std.specs.Option.{option_map}
use Rattle.board_base.specs.Texts.{◌>>=◌, square_at}
use Rattle.board_base.specs.declared.men.Kind.{Kind}
use Rattle.board_base.specs.declared.men.Kind.TheVariants.{Pawn, Knight, Bishop, Rook, Queen, King}
use Rattle.san_text.specs.declared.grammar.San.{San}
use Rattle.san_text.specs.declared.grammar.San.TheVariants.{Short, Long, Goes}

-- nothing is left but one + or #, if that
abbrev pub is_end : List ℕ → Bool
is_end [] = true
is_end (c ∷ []) = (c == 43) || (c == 35)
is_end (c ∷ d ∷ rest) = false

-- the square of which the rest of a text is
abbrev pub target_of : List ℕ → Option ℕ
target_of (a ∷ b ∷ rest) = cond (is_end rest) (square_at a b) None
target_of _ = None

-- the file of a letter a to h
abbrev pub file_of : ℕ → Option ℕ
file_of b = cond (nat_le 97 b && nat_le b 104) (Some (b - 97)) None

-- the rank of a digit 1 to 8
abbrev pub rank_of : ℕ → Option ℕ
rank_of b = cond (nat_le 49 b && nat_le b 56) (Some (b - 49)) None

-- what f tells of the first byte, if there is one
abbrev pub first : {A : Type 0} → (ℕ → Option A) → List ℕ → Option A
first f [] = None
first f (b ∷ rest) = f b

-- the text without its first byte, where something is told of it
abbrev pub after : {A : Type 0} → Option A → List ℕ → List ℕ
after None text = text
after (Some x) [] = []
after (Some x) (b ∷ rest) = rest

-- the origin's file with which a text begins, if it isn't the target's
abbrev pub file_head : List ℕ → Option ℕ
file_head text = cond (is_some (target_of text)) None (first file_of text)

-- what follows the file with which a text begins, if one does
abbrev pub after_file : List ℕ → List ℕ
after_file text = after (file_head text) text

-- the origin's rank with which a text begins
abbrev pub rank_head : List ℕ → Option ℕ
rank_head text = first rank_of text

-- what follows the rank with which a text begins, if one does
abbrev pub after_rank : List ℕ → List ℕ
after_rank text = after (rank_head text) text

-- the text begins with x
abbrev pub takes_head : List ℕ → Bool
takes_head [] = false
takes_head (b ∷ rest) = b == 120

-- what follows the x with which a text begins, if one does
abbrev pub after_takes : List ℕ → List ℕ
after_takes [] = []
after_takes (b ∷ rest) = cond (b == 120) rest (b ∷ rest)

-- a piece goes, of whose origin this is told
abbrev pub piece_goes : Kind → Option ℕ → Option ℕ → Bool → ℕ → San
piece_goes k file rank takes to = Goes (record { kind = k; file = file; rank = rank; takes = takes; to = to; promo = None })

-- what follows a piece's letter: a file, a rank and x, each or none, and the target
unfoldable pub piece_of : Kind → List ℕ → Option San
piece_of k text =
    option_map (piece_goes k (file_head text) (rank_head (after_file text)) (takes_head (after_rank (after_file text)))) (target_of (after_takes (after_rank (after_file text))))

-- the kind of a letter N, B, R or Q
abbrev pub promoted_of : ℕ → Option Kind
promoted_of b = cond (b == 78) (Some Knight) (cond (b == 66) (Some Bishop) (cond (b == 82) (Some Rook) (cond (b == 81) (Some Queen) None)))

-- the kind of a letter N, B, R, Q or K
abbrev pub piece_letter : ℕ → Option Kind
piece_letter b = cond (b == 75) (Some King) (promoted_of b)

-- what may follow a pawn's target: nothing, or = and the letter of what the pawn becomes
abbrev pub promotion_of : List ℕ → Option (Option Kind)
promotion_of (a ∷ b ∷ rest) = cond ((a == 61) && is_end rest) (option_map (λ k. Some k) (promoted_of b)) None
promotion_of text = cond (is_end text) (Some None) None

-- a pawn goes, and captures where its file is told
abbrev pub pawn_goes : Option ℕ → ℕ → Option Kind → San
pawn_goes file to promo = Goes (record { kind = Pawn; file = file; rank = None; takes = is_some file; to = to; promo = promo })

-- a pawn's target and what follows it
abbrev pub pawn_end : Option ℕ → List ℕ → Option San
pawn_end file (a ∷ b ∷ rest) = square_at a b >>= (λ to. option_map (pawn_goes file to) (promotion_of rest))
pawn_end file _ = None

-- a pawn's target, before which a file and x may stand
abbrev pub pawn_of : List ℕ → Option San
pawn_of (a ∷ b ∷ rest) = cond (b == 120) (file_of a >>= (λ file. pawn_end (Some file) rest)) (pawn_end None (a ∷ b ∷ rest))
pawn_of _ = None

-- what follows O-O
abbrev pub castling_end : List ℕ → Option San
castling_end (a ∷ b ∷ rest) = cond ((a == 45) && (b == 79) && is_end rest) (Some Long) None
castling_end text = cond (is_end text) (Some Short) None

-- what follows O
abbrev pub castling_of : List ℕ → Option San
castling_of (a ∷ b ∷ rest) = cond ((a == 45) && (b == 79)) (castling_end rest) None
castling_of _ = None

-- a piece's text where there is a letter, else a pawn's
abbrev pub man_of : Option Kind → ℕ → List ℕ → Option San
man_of (Some k) b rest = piece_of k rest
man_of None b rest = pawn_of (b ∷ rest)

-- what a text says of a move
unfoldable pub san_of : List ℕ → Option San
san_of [] = None
san_of (b ∷ rest) = cond (b == 79) (castling_of rest) (man_of (piece_letter b) b rest)
