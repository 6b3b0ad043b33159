-- What the definitions say of queries and lists that are written out.
use Rattle.std.proofs.Common.{◌≡◌, ℕ, zero, suc, inl, inr, Bool, true, false, List, [], ◌∷◌, refl, sym, subst, arith}
use Rattle.std.specs.Prelude.{None}
use Rattle.board_base.specs.Board.{array_of, no_men, no_odds}
use Rattle.board_base.specs.Rights.{no_rights}
use Rattle.board_base.specs.declared.men.Colour.TheVariants.{White}
use Rattle.board_base.specs.declared.moves.Move.{Move}
use Rattle.board_base.specs.declared.unmoves.Unmove.{Unmove}
use Rattle.general_lemmas.proofs.Lists.{contains-cases, contains-none}
use Rattle.play_rules.specs.Kings.{kings}
use Rattle.query_base.specs.Asked.{Asked}
use Rattle.board_base.specs.Game.{unmoved as keeps_its_men}
use Rattle.board_base.proofs.EachCastle.{each-castle}
use Rattle.board_base.proofs.Without.{are-no-odds}
use Rattle.query_base.specs.Reach.{Reaches}
use Rattle.query_base.specs.declared.claims.Claim.TheVariants.{Illegal}
use Rattle.query_base.specs.declared.rule_lines.RuleLine.TheVariants.{Kings}
use Rattle.capture_prices.specs.Prices.{PriceList}
use Rattle.cert_text.specs.declared.reasons.Reason.TheVariants.{Line, Balance}
use Rattle.query_base.proofs.Meeting.{reaches_nothing}
use Rattle.static_rules.specs.Supports.{IsClosed}
use Rattle.static_rules.proofs.Unreached.{unreached}
use Rattle.cert_text.specs.Tree.{rule, back, expand, none, more}
use Rattle.retro_search.specs.Refutable.{IsRefutable, IsShut}
use Rattle.retro_search.specs.Lines.{IsFirstNot, forwards}
use Rattle.retro_search.specs.Costs.{IsCost, SumsUpTo}
use Rattle.retro_search.specs.Lone.{AreDifferent, IsAfforded, IsLoneSearch, IsMemoCost}
use Rattle.retro_search.specs.Sizes.{nodes_in}
use Rattle.retro_search.specs.Heights.{height}
use Rattle.retro_search.specs.Answers.{IsCounter, IsProofOf}
use Rattle.retro_search.specs.Unsettled.{IsAgainst, IsOpenLine, WhereRefutable}
use Rattle.retro_search.specs.Outcomes.{HasProof}
use Rattle.retro_search.specs.LineCounts.{lines_in}
use Rattle.sketch_findings.proofs.Sound.{sound}

-- a board without men
abbrev nothing : Asked
nothing = record { board = no_men; turn = White; odds = no_odds; held = no_rights; only = None; barred = None; clock = None }

kingless : kings White no_men ≡ 0
kingless = refl

nothing_closed : IsClosed nothing
nothing_closed = (Kings, λ h. absurd (omega (arith, h White, kingless)))

-- is refutable at depth 0, with one visit, of itself
nothing_refutable : IsRefutable nothing 0 []
nothing_refutable = inl nothing_closed

nothing_cost : IsCost nothing 3 [] 1
nothing_cost = inl (inl (inl nothing_closed), refl)

unclosed : (p : Asked) → p ≡ nothing → (IsClosed p → ⊥) → ⊥
unclosed p same open_ = open_ (subst IsClosed (sym same) nothing_closed)

-- and as many where trees are kept, since nothing is expanded
nothing_memo_cost : IsMemoCost nothing 1 1
nothing_memo_cost = (
  [],
  record {
    different = tt;
    each = λ p. (
      λ there. absurd (contains-none p there),
      λ h. elim h.0 [
        | inl same ↦ absurd (unclosed p same h.1)
        | inr below ↦ absurd (below.0 nothing_closed)
      ],
    );
  },
  refl,
)

-- it leans on nothing above it
nothing_lone : IsLoneSearch nothing 1 1
nothing_lone = record {
  lone = (λ covered. omega (arith, covered.2), λ unclosed. absurd (unclosed nothing_closed));
  refutable = inl (inl nothing_closed);
  cost = inl (inl (inl nothing_closed), refl);
  few = omega arith;
}

-- so a search that may visit none can't prove it
nothing_dear : IsAfforded 1 0 Illegal nothing → ⊥
nothing_dear afforded = absurd (omega (arith, afforded 1 1 nothing_lone nothing_memo_cost))

-- one node proves that it is illegal, without going back
nothing_proved : IsProofOf 0 (record { claim = Illegal; query = nothing; root = rule (Line Kings) }) Illegal nothing
unfolding nothing_closed
nothing_proved = record { claim_is = refl; query_is = refl; proves = nothing_closed.1; low = omega arith; few = omega arith }

-- no game reaches it, and it costs one visit at each depth
nothing_proof : HasProof nothing 0 0
unfolding nothing_closed
nothing_proof = record {
  tree = rule (Line Kings);
  proves = nothing_closed.1;
  high = refl;
  low = omega arith;
  unreached = λ game reaches. sound (rule (Line Kings)) nothing nothing_closed.1 game reaches;
}

nothing_cheap : (depth : ℕ) → WhereRefutable nothing depth (λ n. n ≡ 1)
nothing_cheap depth zero n low ref cost = cost
nothing_cheap depth (suc k) n low ref (inl (end, e)) = e
nothing_cheap depth (suc k) n low ref (inr (unshut, elsewhere, below)) = absurd (unshut (inl nothing_closed))

-- the array from which games begin
abbrev beginning : Asked
beginning = record { board = array_of no_odds; turn = White; odds = no_odds; held = no_rights; only = None; barred = None; clock = None }

begun : Reaches [] beginning
begun = reaches_nothing beginning are-no-odds refl refl (λ x h. each-castle (keeps_its_men no_odds []) refl x) refl tt

beginning_unshut : IsShut beginning [] → ⊥
beginning_unshut (inl (line, supports)) = unreached beginning line supports [] begun
beginning_unshut (inr covered) = absurd (omega (arith, covered.2))

-- isn't refutable at any depth
beginning_unrefutable : (depth : ℕ) → IsRefutable beginning depth [] → ⊥
beginning_unrefutable zero h = beginning_unshut h
beginning_unrefutable (suc depth) (inl shut) = beginning_unshut shut
beginning_unrefutable (suc depth) (inr (elsewhere, each)) = elsewhere begun

-- its first open line is empty, ends at the array, and is the game that contradicts that it is illegal
beginning_countered : (depth : ℕ) → IsCounter [] Illegal beginning (suc depth)
beginning_countered depth = record {
  line = [];
  open_line = record { unrefuted = beginning_unrefutable (suc depth); first = begun };
  at_array = begun;
  forwards_is = refl;
  contradicts = begun;
}

-- so does each line of the search by all reasons that ends there
beginning_open : (depth : ℕ) → IsOpenLine beginning depth [] []
beginning_open zero = (beginning_unshut, inr begun)
beginning_open (suc depth) = (beginning_unshut, inr begun)

beginning_against : (depth : ℕ) → IsAgainst [] Illegal beginning depth
beginning_against depth = record {
  line = [];
  open_line = beginning_open depth;
  at_array = begun;
  forwards_is = refl;
  contradicts = begun;
  short = omega arith;
  unrefuted = λ more. beginning_unrefutable more;
}

-- a move from one square to another, and the unmove that takes it back
abbrev moved : ℕ → ℕ → Move
moved from to = record { from = from; to = to; promo = None }

abbrev unmoved : ℕ → ℕ → Unmove
unmoved from to = record { mv = moved from to; captured = None; ep = false }

-- a line has the last move first, and a game the first
line_forwards : forwards (unmoved 52 36 ∷ unmoved 12 28 ∷ []) ≡ moved 12 28 ∷ moved 52 36 ∷ []
line_forwards = refl

-- numbers are added up to and with the first unmove that fails the test, here the one from e2
abbrev IsElsewhere : Unmove → Type 0
IsElsewhere u = u.mv.from ≡ 12 → ⊥

sum_of_three : SumsUpTo (λ u n. n ≡ u.mv.to) IsElsewhere (unmoved 8 16 ∷ unmoved 12 28 ∷ unmoved 14 22 ∷ []) 44
sum_of_three = (16, refl, inr ((λ e. absurd (omega arith)), (28, (28, refl, inl ((λ h. h refl), refl)), refl)))

first_of_three : IsFirstNot IsElsewhere (unmoved 8 16 ∷ unmoved 12 28 ∷ unmoved 14 22 ∷ []) (unmoved 12 28)
first_of_three = (
  unmoved 8 16 ∷ [],
  unmoved 14 22 ∷ [],
  refl,
  (λ v there e. elim (contains-cases (unmoved 8 16) [] v there) [
    | inl same ↦ absurd (let apart : 8 ≡ v.mv.from = λ i. (same i).mv.from in omega arith)
    | inr later ↦ contains-none v later
  ]),
  λ h. h refl,
)

-- three nodes, of which the root's children are two
three_nodes : nodes_in (expand (more (unmoved 8 16) (rule (Line Kings)) (more (unmoved 12 28) (back 1) none))) ≡ 3
three_nodes = refl

-- and they fill three lines, with prices at one of them four
three_lines : lines_in (expand (more (unmoved 8 16) (rule (Line Kings)) (more (unmoved 12 28) (back 1) none))) ≡ 3
three_lines = refl

priced_lines : (set : List Bool) (p : PriceList) → lines_in (expand (more (unmoved 8 16) (rule (Balance set p)) (more (unmoved 12 28) (back 1) none))) ≡ 4
priced_lines set p = refl

-- a node without children is one high, as is one whose children are rules and steps back
no_children : height (expand none) ≡ 1
no_children = refl

low_children : height (expand (more (unmoved 8 16) (rule (Line Kings)) (more (unmoved 12 28) (back 1) none))) ≡ 1
low_children = refl

-- a query differs from another that demands more
one_right : Asked
one_right = record beginning { held = record no_rights { white_short = true } }

two_apart : AreDifferent (beginning ∷ one_right ∷ [])
unfolding one_right
two_apart = (
  λ there. elim (contains-cases one_right [] beginning there) [
    | inl same ↦ absurd (let apart : true ≡ false = λ i. (same i).held.white_short in cc)
    | inr later ↦ contains-none beginning later
  ],
  (λ there. contains-none one_right there, tt),
)
