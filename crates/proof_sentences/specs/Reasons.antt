-- The sentences that tell a reason.
use Rattle.std.specs.Prelude.{ℕ, ◌≡◌, ◌⊎◌, Bool, IsTrue, cond, List, [], ◌∷◌, ◌++◌, Option, None, Some}
use Rattle.std.specs.List.{find}
use Rattle.arrayvec.specs.ArrayVec.{ArrayVec}
use Rattle.board_base.specs.Board.{opponent}
use Rattle.board_base.specs.Play.{all_castles}
use Rattle.board_base.specs.declared.castles.Castle.{Castle}
use Rattle.balance_prose.specs.Accounts.{table_of}
use Rattle.balance_prose.specs.Counted.{is_plain, lowered}
use Rattle.balance_prose.specs.declared.numbers.Numbers.{Numbers}
use Rattle.balance_prose.specs.declared.numbers.Numbers.TheVariants.{Exact, Enough}
use Rattle.balance_rule.specs.Balance.{BalanceSupports}
use Rattle.board_base.specs.declared.men.Colour.{Colour}
use Rattle.board_base.specs.declared.men.Colour.TheVariants.{White, Black}
use Rattle.capture_prices.specs.Prices.{PriceList}
use Rattle.first_pairing.specs.FirstPairings.{IsFirstPairing}
use Rattle.cert_text.specs.declared.reasons.Reason.{Reason}
use Rattle.cert_text.specs.declared.reasons.Reason.TheVariants.{Line, Balance}
use Rattle.pawn_assign.specs.PawnCosts.{pawn_costs}
use Rattle.query_base.specs.Asked.{Asked}
use Rattle.query_base.specs.declared.rule_lines.RuleLine.{RuleLine}
use Rattle.query_base.specs.declared.rule_lines.RuleLine.TheVariants as rule
use Rattle.proof_sentences.specs.declared.sentences.Sentence.{Sentence}
use Rattle.proof_sentences.specs.declared.sentences.Sentence.TheVariants.{Kings, Ranks, Check, Rights, Caged, Changed, Settled, OnPawns, OnBalance}
use Rattle.proof_sentences.specs.declared.sentences.BalanceFact.TheVariants.{Priced, Balanced, Counted, Best, Homeless}
use Rattle.proof_sentences.specs.declared.sentences.PawnFact.TheVariants.{Count, Gone, Promoted, Way, AtLeast, Lacks}
use Rattle.proof_sentences.specs.Firsts.{IsFirst, is_astray, is_changed, is_king_attacked, is_pawn_on_end}
use Rattle.proof_sentences.specs.Lessened.{IsLeast}
use Rattle.proof_sentences.specs.Sentences.{Says, is_homeless, words_of}

-- each of the sentences holds of the query
abbrev pub AllSay : List Sentence → Asked → Type 0
AllSay [] q = Unit {0}
AllSay (s ∷ ss) q = Says s q × AllSay ss q

-- the words of sentences, one after another
abbrev pub all_words : List Sentence → Asked → List ℕ
all_words [] q = []
all_words (s ∷ ss) q = words_of s q ++ all_words ss q

-- a sentence on the captures of this side's pawns by the first of their cheapest ways
abbrev pub IsCheapest : Asked → Colour → Sentence → Type 0
IsCheapest q c s =
    (captures : ℕ) × (files : ArrayVec ℕ) × (s ≡ OnPawns (Way c captures files)) × IsFirstPairing 8 (pawn_costs q.odds c q.board) files.items

-- a sentence on their captures, while the men on the set stood: by that way, or by a number that is enough if they have a way at all
abbrev pub IsWayOf : Numbers → Asked → Colour → List Bool → Sentence → Type 0
IsWayOf Exact q c set s = IsCheapest q c s
IsWayOf Enough q c set s = ((captures : ℕ) × (s ≡ OnPawns (AtLeast c set captures))) ⊎ IsCheapest q c s

-- these sentences of the query, each of which holds, are written behind what was written before
abbrev pub Adds : Asked → List Sentence → List ℕ → List ℕ → Type 0
Adds q ss old new = AllSay ss q × (new ≡ old ++ all_words ss q)

-- Whether the query is the first that is told decides some words, and which numbers are told some others. The rule line is told: by what it says in one sentence; by who shut each other in, and the first square of theirs that doesn't hold
-- what it held in the array; by who never moved, how many captures the side's pawns made, and how many men the other side lacks; or by
-- who never moved, whose officers were captured meanwhile, and how many men must have been promoted.
abbrev pub TellsRule : Numbers → Bool → Asked → RuleLine → List ℕ → List ℕ → Type 0
TellsRule numbers first q rule.Kings old new = Adds q (Kings ∷ []) old new
TellsRule numbers first q rule.Ranks old new = (s : ℕ) × IsFirst (is_pawn_on_end q.board) s × Adds q (Ranks s ∷ []) old new
TellsRule numbers first q rule.Check old new =
    (s : ℕ) × IsFirst (is_king_attacked q.board (opponent q.turn)) s × Adds q (Check (opponent q.turn) s ∷ []) old new
TellsRule numbers first q rule.Rights old new = (x : Castle) × (find (is_astray q) all_castles ≡ Some x) × Adds q (Rights x ∷ []) old new
TellsRule numbers first q (rule.Count c) old new =
    (pawns : ℕ) × (together : ℕ) × (began : ℕ) × Adds q (OnPawns (Count c pawns together began first) ∷ []) old new
TellsRule numbers first q (rule.Frozen set) old new =
    (odd : ℕ) × IsFirst (is_changed q.odds q.board set) odd × Adds q (Caged set ∷ Changed set odd ∷ []) old new
TellsRule numbers first q (rule.Caps c set p) old new =
    (way : Sentence) × (missing : ℕ) × IsWayOf numbers q c set way × Adds q (Settled set ∷ way ∷ OnPawns (Lacks (opponent c) set missing first) ∷ []) old new
TellsRule numbers first q (rule.Promo c set) old new =
    (pawns : ℕ) × (began : ℕ) × Adds q (Settled set ∷ OnPawns (Gone c set) ∷ OnPawns (Promoted c set pawns began first) ∷ []) old new

-- captures are counted at these prices, and they support the query
abbrev pub CountsFor : Asked → List Bool → PriceList → Type 0
CountsFor q set p = IsTrue (is_plain p) × BalanceSupports q set p

-- a balance is told by who never moved, what is counted, and what the men count at least, with the first of the cheapest homes of each side
abbrev pub TellsCounted : Numbers → Bool → Asked → List Bool → PriceList → List ℕ → List ℕ → Type 0
TellsCounted numbers first q set p old new =
    (white : ArrayVec ℕ) × (black : ArrayVec ℕ) × IsFirstPairing 16 (table_of q p set White) white.items × IsFirstPairing 16 (table_of q p set Black) black.items × Adds q (Settled set ∷ OnBalance (Counted set p) ∷ OnBalance (Best set p white black first numbers) ∷ []) old new

-- or by who never moved, what captures cost, and what the men of both sides cost
abbrev pub TellsPriced : Numbers → Asked → List Bool → PriceList → List ℕ → List ℕ → Type 0
TellsPriced numbers q set p old new =
    (white : ℕ) × (black : ℕ) × Adds q (Settled set ∷ OnBalance (Priced set p) ∷ OnBalance (Balanced set p white black numbers) ∷ []) old new

-- by what is counted, if captures are counted at the prices when they are lowered
abbrev pub TellsBalance : Numbers → Bool → Asked → List Bool → PriceList → List ℕ → List ℕ → Type 0
TellsBalance numbers first q set p old new =
    (CountsFor q set (lowered p) × TellsCounted numbers first q set (lowered p) old new) ⊎ ((CountsFor q set (lowered p) → ⊥) × TellsPriced numbers q set p old new)

-- the side whose men can't all have begun on homes of their own, if there is one; White comes first
abbrev pub homeless_side : Asked → List Bool → Option Colour
homeless_side q set = cond (is_homeless q set White) (Some White) (cond (is_homeless q set Black) (Some Black) None)

-- the balance is told by that, if there is such a side
abbrev pub TellsBy : Numbers → Option Colour → Bool → Asked → List Bool → PriceList → List ℕ → List ℕ → Type 0
TellsBy numbers None first q set p old new = TellsBalance numbers first q set p old new
TellsBy numbers (Some c) first q set p old new = Adds q (Settled set ∷ OnBalance (Homeless c set) ∷ []) old new

-- the reason is told
abbrev pub TellsReason : Numbers → Bool → Asked → Reason → List ℕ → List ℕ → Type 0
TellsReason numbers first q (Line r) old new = TellsRule numbers first q r old new
TellsReason numbers first q (Balance set p) old new = TellsBy numbers (homeless_side q set) first q set p old new

-- the reason is told of the least of its set that it needs
abbrev pub AddsReason : Numbers → Bool → Asked → Reason → List ℕ → List ℕ → Type 0
AddsReason numbers first q r old new = (least : Reason) × IsLeast q r least × TellsReason numbers first q least old new
