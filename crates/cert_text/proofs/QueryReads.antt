-- The lines of a query that are read from the first on.
use Rattle.std.proofs.Common.{◌≡◌, ℕ, Bool, List, [], ◌∷◌, ◌++◌, Option, Some, None, refl, sym, ap, ◌∙◌, subst, arith, append_assoc}
use Rattle.std.specs.Option.{option_map}
use Rattle.board_base.specs.Board.{no_odds}
use Rattle.board_base.proofs.TextLemmas.{mapped_some}
use Rattle.query_base.specs.Asked.{Asked}
use Rattle.fen_text.specs.OddsLines.{odds_line}
use Rattle.cert_text.specs.Certificate.{IsSaid, Lines, clock_demand, query_of}
use Rattle.cert_text.specs.Lines.{said}
use Rattle.cert_text.specs.QueryReading.{clock_first, fen_first, query_first, said_first, unless_said}
use Rattle.cert_text.proofs.FenLines.{query_read}
use Rattle.cert_text.proofs.FirstLetters.{Begins, clock_begins, fen_begins, no_odds_said}
use Rattle.cert_text.proofs.HeadSteps.{bare, demanded}
use Rattle.cert_text.proofs.SpelledLines.{nothing_said}

-- lines of a query that begin others are read

-- a value that is said, or not, before a line that says none
first_said : {A : Type 0} (grammar : List ℕ → Option A) (unsaid value : A) (front : Lines) (next : List ℕ) (rest : Lines) → IsSaid grammar unsaid front value → said grammar next ≡ None → said_first grammar unsaid (front ++ next ∷ rest) ≡ (value, next ∷ rest)
first_said {A} grammar unsaid value [] next rest is none =
    ap (λ (o : Option A). unless_said o unsaid next rest) none ∙ ap (λ (v : A). (v, next ∷ rest)) (sym is)
first_said {A} grammar unsaid value (line ∷ []) next rest is none = ap (λ (o : Option A). unless_said o unsaid line (next ∷ rest)) is
first_said {A} grammar unsaid value (line ∷ other ∷ lines) next rest is none = absurd is

demand_begins : (line : List ℕ) (clock : Option ℕ) → said clock_demand line ≡ Some clock → Begins line 99
demand_begins line clock e = let n = demanded line clock e in clock_begins line n.0 n.1

no_demand_said : (line : List ℕ) → Begins line 102 → said clock_demand line ≡ None
no_demand_said line begins = nothing_said clock_demand line (λ clock e. let first = demand_begins line clock e in omega arith)

fen_goes : (q : Asked) (fen : List ℕ) (rest : Lines) → said query_of fen ≡ Some (record q { odds = no_odds; clock = None }) → fen_first q.odds q.clock (fen ∷ rest) ≡ Some (q, rest)
fen_goes q fen rest e = ap (λ (o : Option Asked). option_map (λ (p : Asked). (record p { odds = q.odds; clock = q.clock }, rest)) o) e

clock_goes : (clocks : Lines) (q : Asked) (fen : List ℕ) (rest : Lines) → IsSaid clock_demand None clocks q.clock → said query_of fen ≡ Some (record q { odds = no_odds; clock = None }) → clock_first q.odds (clocks ++ fen ∷ rest) ≡ Some (q, rest)
clock_goes clocks q fen rest clock e =
    let none = no_demand_said fen (fen_begins fen (record q { odds = no_odds; clock = None }) e) in
    let first : said_first clock_demand None (clocks ++ fen ∷ rest) ≡ (q.clock, fen ∷ rest) = first_said clock_demand None q.clock clocks fen rest clock none in
    ap (λ (p : Option ℕ × Lines). fen_first q.odds p.0 p.1) first ∙ fen_goes q fen rest e

-- no line behind the odds names odds
odds_first : (odds_lines clocks : Lines) (q : Asked) (fen : List ℕ) (rest : Lines) → IsSaid odds_line no_odds odds_lines q.odds → IsSaid clock_demand None clocks q.clock → said query_of fen ≡ Some (record q { odds = no_odds; clock = None }) → said_first odds_line no_odds (odds_lines ++ (clocks ++ fen ∷ rest)) ≡ (q.odds, clocks ++ fen ∷ rest)
odds_first odds_lines [] q fen rest odds clock e =
    first_said odds_line no_odds q.odds odds_lines fen rest odds (no_odds_said fen 102 (fen_begins fen (record q { odds = no_odds; clock = None }) e) (λ same. omega arith))
odds_first odds_lines (line ∷ []) q fen rest odds clock e =
    first_said odds_line no_odds q.odds odds_lines line (fen ∷ rest) odds (no_odds_said line 99 (demand_begins line q.clock clock) (λ same. omega arith))
odds_first odds_lines (line ∷ other ∷ lines) q fen rest odds clock e = absurd clock

pub query_goes : (odds_lines clocks : Lines) (q : Asked) (fen : List ℕ) (rest : Lines) → IsSaid odds_line no_odds odds_lines q.odds → IsSaid clock_demand None clocks q.clock → said query_of fen ≡ Some (record q { odds = no_odds; clock = None }) → query_first (odds_lines ++ (clocks ++ fen ∷ rest)) ≡ Some (q, rest)
query_goes odds_lines clocks q fen rest odds clock e =
    ap (λ (p : List Bool × Lines). clock_first p.0 p.1) (odds_first odds_lines clocks q fen rest odds clock e) ∙ clock_goes clocks q fen rest clock e

-- what is read is the lines of a query that begin the others

-- a value that was said, or not, by lines that begin others
pub record Front {A : Type 0} (grammar : List ℕ → Option A) (unsaid : A) (lines : Lines) (value : A) (rest : Lines) : Type 0 where
  pub front : Lines
  pub parts : lines ≡ front ++ rest
  pub is : IsSaid grammar unsaid front value

front_line : {A : Type 0} (grammar : List ℕ → Option A) (unsaid : A) (line : List ℕ) (lines : Lines) (o : Option A) → said grammar line ≡ o → Front grammar unsaid (line ∷ lines) (unless_said o unsaid line lines).0 (unless_said o unsaid line lines).1
front_line grammar unsaid line lines None e = record { front = []; parts = refl; is = refl }
front_line grammar unsaid line lines (Some value) e = record { front = line ∷ []; parts = refl; is = e }

pub front_of : {A : Type 0} (grammar : List ℕ → Option A) (unsaid : A) (lines : Lines) → Front grammar unsaid lines (said_first grammar unsaid lines).0 (said_first grammar unsaid lines).1
front_of grammar unsaid [] = record { front = []; parts = refl; is = refl }
front_of grammar unsaid (line ∷ lines) = front_line grammar unsaid line lines (said grammar line) refl

pub record FenFirst (odds : List Bool) (clock : Option ℕ) (lines : Lines) (q : Asked) (rest : Lines) : Type 0 where
  pub fen_line : List ℕ
  pub parts : lines ≡ fen_line ∷ rest
  pub odds_are : odds ≡ q.odds
  pub clock_is : clock ≡ q.clock
  pub query_is : said query_of fen_line ≡ Some (record q { odds = no_odds; clock = None })

pub fen_of : (odds : List Bool) (clock : Option ℕ) (lines : Lines) (q : Asked) (rest : Lines) → fen_first odds clock lines ≡ Some (q, rest) → FenFirst odds clock lines q rest
fen_of odds clock [] q rest e = absurd cc
fen_of odds clock (line ∷ lines) q rest e =
    let m = mapped_some (λ (p : Asked). (record p { odds = odds; clock = clock }, lines)) (said query_of line) (q, rest) e in
    let p : Asked = m.0 in
    let query : record p { odds = odds; clock = clock } ≡ q = ap (λ (r : Asked × Lines). r.0) m.2 in
    let left : lines ≡ rest = ap (λ (r : Asked × Lines). r.1) m.2 in
    let read = query_read line p m.1 in
    record {
      fen_line = line;
      parts = ap (λ (ls : Lines). line ∷ ls) left;
      odds_are = ap (λ (x : Asked). x.odds) query;
      clock_is = ap (λ (x : Asked). x.clock) query;
      query_is = m.1 ∙ ap (λ (x : Asked). Some x) (bare p read.whole read.any_clock ∙ ap (λ (x : Asked). record x { odds = no_odds; clock = None }) query);
    }

-- lines that begin with those of a query
pub record QueryFirst (lines : Lines) (q : Asked) (rest : Lines) : Type 0 where
  pub odds_lines : Lines
  pub clock_lines : Lines
  pub fen_line : List ℕ
  pub parts : lines ≡ ((odds_lines ++ clock_lines) ++ fen_line ∷ []) ++ rest
  pub odds_are : IsSaid odds_line no_odds odds_lines q.odds
  pub clock_is : IsSaid clock_demand None clock_lines q.clock
  pub query_is : said query_of fen_line ≡ Some (record q { odds = no_odds; clock = None })

pub query_read_first : (lines : Lines) (q : Asked) (rest : Lines) → query_first lines ≡ Some (q, rest) → QueryFirst lines q rest
query_read_first lines q rest e =
    let odds : List Bool = (said_first odds_line no_odds lines).0 in
    let behind : Lines = (said_first odds_line no_odds lines).1 in
    let o : Front odds_line no_odds lines odds behind = front_of odds_line no_odds lines in
    let clock : Option ℕ = (said_first clock_demand None behind).0 in
    let last : Lines = (said_first clock_demand None behind).1 in
    let k : Front clock_demand None behind clock last = front_of clock_demand None behind in
    let f : FenFirst odds clock last q rest = fen_of odds clock last q rest e in
    record {
      odds_lines = o.front;
      clock_lines = k.front;
      fen_line = f.fen_line;
      parts = o.parts ∙ ap (λ (ls : Lines). o.front ++ ls) (k.parts ∙ ap (λ (ls : Lines). k.front ++ ls) f.parts) ∙ sym (append_assoc o.front k.front (f.fen_line ∷ rest)) ∙ sym (append_assoc (o.front ++ k.front) (f.fen_line ∷ []) rest);
      odds_are = subst (IsSaid odds_line no_odds o.front) f.odds_are o.is;
      clock_is = subst (IsSaid clock_demand None k.front) f.clock_is k.is;
      query_is = f.query_is;
    }
