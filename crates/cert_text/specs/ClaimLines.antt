-- The texts of claims.
use Rattle.std.specs.Prelude.{ℕ, Bool, true, cond, nat_eq, List, [], ◌∷◌, ◌++◌, drop, codes, Option, Some, None, is_none}
use Rattle.std.specs.List.{starts_with}
use Rattle.std.specs.Str.{bytes_eq}
use Rattle.std.specs.Option.{option_map, option_and_then}
use Rattle.board_base.specs.Texts.{move_of, move_text, can_promote}
use Rattle.board_base.specs.declared.moves.Move.{Move}
use Rattle.board_base.specs.declared.castles.Castle.{Castle}
use Rattle.board_base.specs.declared.castles.Castle.TheVariants.{WhiteShort, WhiteLong, BlackShort, BlackLong}
use Rattle.query_base.specs.declared.claims.Claim.{Claim}
use Rattle.query_base.specs.declared.claims.Claim.TheVariants.{Illegal, Last, Lost, Ep}
use Rattle.fen_text.specs.Fen.{castle_letter}

-- the castling of a letter K, Q, k or q
abbrev pub castling_named : List ℕ → Option Castle
castling_named name =
    cond (bytes_eq name (codes "K")) (Some WhiteShort) (
    cond (bytes_eq name (codes "Q")) (Some WhiteLong) (
    cond (bytes_eq name (codes "k")) (Some BlackShort) (
    cond (bytes_eq name (codes "q")) (Some BlackLong) None)))

-- a capture en passant promotes nothing
abbrev pub capture_claimed : Move → Option Claim
capture_claimed m = cond (is_none m.promo) (Some (Ep m)) None

-- the claim of a text: `claim`, then `last` and a move, `lost` and the letter of a castling, `ep` and a move without promotion, or
-- `illegal`
unfoldable pub claim_of : List ℕ → Option Claim
claim_of text =
    cond (starts_with nat_eq text (codes "claim last ")) (option_map (λ m. Last m) (move_of (drop 11 text))) (
    cond (starts_with nat_eq text (codes "claim lost ")) (option_map (λ x. Lost x) (castling_named (drop 11 text))) (
    cond (starts_with nat_eq text (codes "claim ep ")) (option_and_then capture_claimed (move_of (drop 9 text))) (
    cond (bytes_eq text (codes "claim illegal")) (Some Illegal) None)))

-- what the text of a claim says after `claim `
abbrev pub claim_words : Claim → List ℕ
claim_words Illegal = codes "illegal"
claim_words (Last m) = codes "last " ++ move_text m
claim_words (Lost x) = codes "lost " ++ castle_letter x ∷ []
claim_words (Ep m) = codes "ep " ++ move_text m

-- the one text of a claim
abbrev pub claim_text : Claim → List ℕ
claim_text claim = codes "claim " ++ claim_words claim

-- a claimed last move promotes as a text can say, and a claimed capture en passant not at all
abbrev pub promotes_well : Claim → Bool
promotes_well Illegal = true
promotes_well (Last m) = can_promote m.promo
promotes_well (Lost x) = true
promotes_well (Ep m) = is_none m.promo
