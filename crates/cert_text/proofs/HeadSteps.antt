-- The head of a certificate, line after line.
use Rattle.std.proofs.Common.{◌≡◌, ℕ, Bool, List, [], ◌∷◌, ◌++◌, Option, Some, None, refl, sym, ap, ◌∙◌, subst, inl, inr, arith}
use Rattle.std.specs.Prelude.{codes, ◌⊎◌}
use Rattle.std.specs.Option.{option_map, option_or}
use Rattle.std.proofs.lemmas.Option.{same_Some}
use Rattle.board_base.specs.Board.{no_men, no_odds}
use Rattle.board_base.specs.Squares.{squares_of}
use Rattle.board_base.specs.declared.men.Colour.TheVariants.{White}
use Rattle.board_base.specs.Rights.{no_rights}
use Rattle.general_lemmas.proofs.Lists.{same_first, same_rest}
use Rattle.query_base.specs.Asked.{Asked}
use Rattle.query_base.specs.declared.claims.Claim.{Claim}
use Rattle.query_base.specs.declared.claims.Claim.TheVariants.{Illegal}
use Rattle.fen_text.specs.Fen.{asked, fen, fen_of_four, from_turn, from_rights, from_en_passant, placement, ranks, rights}
use Rattle.fen_text.specs.ClockLines.{clock_line}
use Rattle.fen_text.specs.OddsLines.{odds_line, odds_of}
use Rattle.fen_text.specs.Parts.{parted}
use Rattle.fen_text.specs.Ranks.{rank, places_of, is_symbol}
use Rattle.fen_text.specs.Sets.{set_of}
use Rattle.fen_text.proofs.PartLemmas.{some_value}
use Rattle.cert_text.specs.Lines.{ended, said}
use Rattle.cert_text.specs.Certificate.{AreHeadLines, IsSaid, Lines, clock_demand, format_for, format_of, query_of}
use Rattle.cert_text.specs.ClaimLines.{claim_of}
use Rattle.cert_text.specs.Heads.{Leads, after_claim, clock_step, fen_step, head_step, odds_step}
use Rattle.cert_text.specs.declared.heads.Format.{Format}
use Rattle.cert_text.specs.declared.heads.Format.TheVariants.{One, Two}
use Rattle.cert_text.specs.declared.heads.Head.{Head}
use Rattle.cert_text.specs.declared.heads.Head.TheVariants.{FormatDue, ClaimDue, DemandDue, ClockOrFenDue, FenDue, RootDue}
use Rattle.cert_text.proofs.FenLines.{query_read}
use Rattle.cert_text.proofs.FirstLetters.{clock_begins, fen_begins, no_clock_said, no_odds_said}
use Rattle.cert_text.proofs.SpelledLines.{said_back, said_read}
use Rattle.board_base.proofs.TextLemmas.{mapped_some}

-- the lines of a head lead to its root

pub leads_both : (a b : Lines) (s h k : Head) → Leads s a h → Leads h b k → Leads s (a ++ b) k
leads_both [] b s h k is rest = subst (λ (x : Head). Leads x b k) (sym is) rest
leads_both (line ∷ a) b s h k (next, e, leads) rest = (next, e, leads_both a b next h k leads rest)

pub leads_more : (front : Lines) (line : List ℕ) (s h next : Head) → Leads s front h → head_step h line ≡ Some next → Leads s (front ++ line ∷ []) next
leads_more front line s h next leads e = leads_both front (line ∷ []) s h next leads (next, e, refl)

-- where a clock is demanded, its line names it
pub demanded : (line : List ℕ) (clock : Option ℕ) → said clock_demand line ≡ Some clock → (n : ℕ) × (said clock_line line ≡ Some n) × (Some n ≡ clock)
unfolding said
demanded line clock e =
    let says = said_read clock_demand line clock e in
    let m = mapped_some (λ (n : ℕ). Some n) (clock_line says.text) clock says.stands in
    (m.0, ap (said clock_line) says.line_is ∙ said_back clock_line says.text m.0 m.1, m.2)

named : (line : List ℕ) (n : ℕ) → said clock_line line ≡ Some n → said clock_demand line ≡ Some (Some n)
named line n e =
    let says = said_read clock_line line n e in
    ap (said clock_demand) says.line_is ∙ said_back clock_demand says.text (Some n) (ap (option_map (λ k. Some k)) says.stands)

-- each line leads on

odds_go : (claim : Claim) (line : List ℕ) (odds : List Bool) → said odds_line line ≡ Some odds → head_step (DemandDue claim) line ≡ Some (ClockOrFenDue claim odds)
odds_go claim line odds e =
    ap (λ (o : Option (List Bool)). option_or (option_map (λ x. ClockOrFenDue claim x) o) (clock_step claim no_odds line)) e

clock_goes : (claim : Claim) (odds : List Bool) (line : List ℕ) (n : ℕ) → said clock_line line ≡ Some n → clock_step claim odds line ≡ Some (FenDue claim odds (Some n))
clock_goes claim odds line n e = ap (option_map (λ k. FenDue claim odds (Some k))) e

first_clock : (claim : Claim) (line : List ℕ) (n : ℕ) → said clock_line line ≡ Some n → head_step (DemandDue claim) line ≡ Some (FenDue claim no_odds (Some n))
first_clock claim line n e =
    let none : said odds_line line ≡ None = no_odds_said line 99 (clock_begins line n e) (λ same. omega arith) in
    ap (λ (o : Option (List Bool)). option_or (option_map (λ x. ClockOrFenDue claim x) o) (clock_step claim no_odds line)) none ∙ clock_goes claim no_odds line n e

second_clock : (claim : Claim) (odds : List Bool) (line : List ℕ) (n : ℕ) → said clock_line line ≡ Some n → head_step (ClockOrFenDue claim odds) line ≡ Some (FenDue claim odds (Some n))
second_clock claim odds line n e =
    ap (λ (o : Option Head). option_or o (fen_step claim odds None line)) (clock_goes claim odds line n e)

fen_goes : (claim : Claim) (odds : List Bool) (clock : Option ℕ) (line : List ℕ) (p : Asked) → said query_of line ≡ Some p → fen_step claim odds clock line ≡ Some (RootDue claim (record p { odds = odds; clock = clock }))
fen_goes claim odds clock line p e =
    ap (option_map (λ x. RootDue claim (record x { odds = odds; clock = clock }))) e

fen_alone : (claim : Claim) (odds : List Bool) (line : List ℕ) (p : Asked) → said query_of line ≡ Some p → head_step (ClockOrFenDue claim odds) line ≡ Some (RootDue claim (record p { odds = odds; clock = None }))
fen_alone claim odds line p e =
    let none : said clock_line line ≡ None = no_clock_said line (fen_begins line p e) in
    ap (λ (o : Option ℕ). option_or (option_map (λ k. FenDue claim odds (Some k)) o) (fen_step claim odds None line)) none ∙ fen_goes claim odds None line p e

same_root : (claim : Claim) (odds : List Bool) (clock : Option ℕ) (q : Asked) → odds ≡ q.odds → clock ≡ q.clock → RootDue claim (record q { odds = odds; clock = clock }) ≡ RootDue claim q
same_root claim odds clock q o k =
    ap (λ (x : List Bool). RootDue claim (record q { odds = x; clock = clock })) o ∙ ap (λ (x : Option ℕ). RootDue claim (record q { clock = x })) k

fen_leads : (claim : Claim) (odds : List Bool) (clock : Option ℕ) (q : Asked) (fen : List ℕ) → odds ≡ q.odds → clock ≡ q.clock → said query_of fen ≡ Some (record q { odds = no_odds; clock = None }) → Leads (FenDue claim odds clock) (fen ∷ []) (RootDue claim q)
fen_leads claim odds clock q fen o k query = (
  RootDue claim (record q { odds = odds; clock = clock }),
  fen_goes claim odds clock fen (record q { odds = no_odds; clock = None }) query,
  same_root claim odds clock q o k,
)

-- from the odds on
odds_lead : (clocks : Lines) (line fen : List ℕ) (claim : Claim) (q : Asked) → said odds_line line ≡ Some q.odds → IsSaid clock_demand None clocks q.clock → said query_of fen ≡ Some (record q { odds = no_odds; clock = None }) → Leads (DemandDue claim) (line ∷ (clocks ++ fen ∷ [])) (RootDue claim q)
odds_lead [] line fen claim q odds clock query = (
  ClockOrFenDue claim q.odds,
  odds_go claim line q.odds odds,
  (
    RootDue claim (record q { clock = None }),
    fen_alone claim q.odds fen (record q { odds = no_odds; clock = None }) query,
    same_root claim q.odds None q refl (sym clock),
  ),
)
odds_lead (k ∷ []) line fen claim q odds clock query =
    let n = demanded k q.clock clock in (
      ClockOrFenDue claim q.odds,
      odds_go claim line q.odds odds,
      (FenDue claim q.odds (Some n.0), second_clock claim q.odds k n.0 n.1, fen_leads claim q.odds (Some n.0) q fen refl n.2 query),
    )
odds_lead (k ∷ other ∷ lines) line fen claim q odds clock query = absurd clock

-- from the format on, where it is the second
second_leads : (f c : List ℕ) (claim : Claim) (q : Asked) (rest : Lines) → said format_of f ≡ Some Two → said claim_of c ≡ Some claim → Leads (DemandDue claim) rest (RootDue claim q) → Leads FormatDue (f ∷ c ∷ rest) (RootDue claim q)
second_leads f c claim q rest format claimed leads =
    (ClaimDue Two, ap (option_map (λ x. ClaimDue x)) format, (DemandDue claim, ap (option_map (after_claim Two)) claimed, leads))

with_demands : (odds_lines clocks : Lines) (f c fen : List ℕ) (claim : Claim) (q : Asked) → said format_of f ≡ Some (format_for (odds_lines ++ clocks)) → said claim_of c ≡ Some claim → IsSaid odds_line no_odds odds_lines q.odds → IsSaid clock_demand None clocks q.clock → said query_of fen ≡ Some (record q { odds = no_odds; clock = None }) → Leads FormatDue (f ∷ c ∷ ((odds_lines ++ clocks) ++ fen ∷ [])) (RootDue claim q)
with_demands [] [] f c fen claim q format claimed odds clock query =
    (ClaimDue One, ap (option_map (λ x. ClaimDue x)) format, (FenDue claim no_odds None, ap (option_map (after_claim One)) claimed, fen_leads claim no_odds None q fen (sym odds) (sym clock) query))
with_demands [] (k ∷ []) f c fen claim q format claimed odds clock query =
    let n = demanded k q.clock clock in
    second_leads f c claim q (k ∷ fen ∷ []) format claimed (FenDue claim no_odds (Some n.0), first_clock claim k n.0 n.1, fen_leads claim no_odds (Some n.0) q fen (sym odds) n.2 query)
with_demands [] (k ∷ other ∷ lines) f c fen claim q format claimed odds clock query = absurd clock
with_demands (line ∷ []) clocks f c fen claim q format claimed odds clock query =
    second_leads f c claim q (line ∷ (clocks ++ fen ∷ [])) format claimed (odds_lead clocks line fen claim q odds clock query)
with_demands (line ∷ other ∷ lines) clocks f c fen claim q format claimed odds clock query = absurd odds

pub head_leads : (lines : Lines) (claim : Claim) (q : Asked) → AreHeadLines lines claim q → Leads FormatDue lines (RootDue claim q)
head_leads lines claim q h =
    subst (λ (l : Lines). Leads FormatDue l (RootDue claim q)) (sym h.parts) (with_demands h.odds_lines h.clock_lines h.format_line h.claim_line h.fen_line claim q h.format_is h.claim_is h.odds_are h.clock_is h.query_is)

-- lines that lead to a root are a head

no_more : (lines : Lines) (claim c : Claim) (q p : Asked) → Leads (RootDue claim q) lines (RootDue c p) → lines ≡ []
no_more [] claim c q p leads = refl
no_more (line ∷ lines) claim c q p (next, e, leads) = cc

-- what leads from the FEN's line to the root
record FromFen (claim : Claim) (odds : List Bool) (clock : Option ℕ) (lines : Lines) (c : Claim) (q : Asked) : Type 0 where
  fen_line : List ℕ
  parts : lines ≡ fen_line ∷ []
  claim_is : claim ≡ c
  odds_is : odds ≡ q.odds
  clock_is : clock ≡ q.clock
  query_is : said query_of fen_line ≡ Some (record q { odds = no_odds; clock = None })

root_claim : (c d : Claim) (p q : Asked) → RootDue c p ≡ RootDue d q → c ≡ d
root_claim c d p q e = cc

root_query : (c d : Claim) (p q : Asked) → RootDue c p ≡ RootDue d q → p ≡ q
root_query c d p q e = cc

-- FEN has no word for what a line before it demands
pub bare : (p : Asked) → p.odds ≡ no_odds → p.clock ≡ None → p ≡ record p { odds = no_odds; clock = None }
bare p o k = ap (λ (x : List Bool). record p { odds = x }) o ∙ ap (λ (x : Option ℕ). record p { odds = no_odds; clock = x }) k

fen_then : (line : List ℕ) (lines : Lines) (claim c : Claim) (odds : List Bool) (clock : Option ℕ) (q : Asked) (next : Head) → fen_step claim odds clock line ≡ Some next → Leads next lines (RootDue c q) → FromFen claim odds clock (line ∷ lines) c q
fen_then line lines claim c odds clock q next e leads =
    let m = mapped_some (λ (p : Asked). RootDue claim (record p { odds = odds; clock = clock })) (said query_of line) next e in
    let p : Asked = m.0 in
    let r : Asked = record p { odds = odds; clock = clock } in
    let rest : Leads (RootDue claim r) lines (RootDue c q) = subst (λ (h : Head). Leads h lines (RootDue c q)) (sym m.2) leads in
    let none = no_more lines claim c r q rest in
    let same : RootDue claim r ≡ RootDue c q = subst (λ (l : Lines). Leads (RootDue claim r) l (RootDue c q)) none rest in
    let query : r ≡ q = root_query claim c r q same in
    let read = query_read line p m.1 in
    record {
      fen_line = line;
      parts = ap (λ (l : Lines). line ∷ l) none;
      claim_is = root_claim claim c r q same;
      odds_is = ap (λ (x : Asked). x.odds) query;
      clock_is = ap (λ (x : Asked). x.clock) query;
      query_is = m.1 ∙ ap (λ (x : Asked). Some x) (bare p read.whole read.any_clock ∙ ap (λ (x : Asked). record x { odds = no_odds; clock = None }) query);
    }

from_fen : (lines : Lines) (claim c : Claim) (odds : List Bool) (clock : Option ℕ) (q : Asked) → Leads (FenDue claim odds clock) lines (RootDue c q) → FromFen claim odds clock lines c q
from_fen [] claim c odds clock q leads = absurd cc
from_fen (line ∷ lines) claim c odds clock q (next, e, leads) = fen_then line lines claim c odds clock q next e leads

-- the one of two options that gives something
pub one_of : {A : Type 0} (o p : Option A) (y : A) → option_or o p ≡ Some y → (o ≡ Some y) ⊎ (p ≡ Some y)
one_of None p y e = inr e
one_of (Some x) p y e = inl e

-- what leads from the clock's line, or the FEN's, to the root
record FromClock (claim : Claim) (odds : List Bool) (lines : Lines) (c : Claim) (q : Asked) : Type 0 where
  clock_lines : Lines
  fen_line : List ℕ
  parts : lines ≡ clock_lines ++ fen_line ∷ []
  claim_is : claim ≡ c
  odds_is : odds ≡ q.odds
  clock_is : IsSaid clock_demand None clock_lines q.clock
  query_is : said query_of fen_line ≡ Some (record q { odds = no_odds; clock = None })

-- the clock of a line that leads to the FEN's
record FromClockLine (claim : Claim) (odds : List Bool) (line : List ℕ) (lines : Lines) (c : Claim) (q : Asked) : Type 0 where
  fen_line : List ℕ
  parts : lines ≡ fen_line ∷ []
  claim_is : claim ≡ c
  odds_is : odds ≡ q.odds
  clock_is : said clock_demand line ≡ Some q.clock
  query_is : said query_of fen_line ≡ Some (record q { odds = no_odds; clock = None })

clock_then : (line : List ℕ) (lines : Lines) (claim c : Claim) (odds : List Bool) (q : Asked) (next : Head) → clock_step claim odds line ≡ Some next → Leads next lines (RootDue c q) → FromClockLine claim odds line lines c q
clock_then line lines claim c odds q next e leads =
    let m = mapped_some (λ (n : ℕ). FenDue claim odds (Some n)) (said clock_line line) next e in
    let fen = from_fen lines claim c odds (Some m.0) q (subst (λ (h : Head). Leads h lines (RootDue c q)) (sym m.2) leads) in
    record {
      fen_line = fen.fen_line;
      parts = fen.parts;
      claim_is = fen.claim_is;
      odds_is = fen.odds_is;
      clock_is = named line m.0 m.1 ∙ ap (λ (k : Option ℕ). Some k) fen.clock_is;
      query_is = fen.query_is;
    }

from_clock : (lines : Lines) (claim c : Claim) (odds : List Bool) (q : Asked) → Leads (ClockOrFenDue claim odds) lines (RootDue c q) → FromClock claim odds lines c q
from_clock [] claim c odds q leads = absurd cc
from_clock (line ∷ lines) claim c odds q (next, e, leads) = elim (one_of (clock_step claim odds line) (fen_step claim odds None line) next e) [
  | inl clock ↦
      let k = clock_then line lines claim c odds q next clock leads in
      record {
        clock_lines = line ∷ [];
        fen_line = k.fen_line;
        parts = ap (λ (l : Lines). line ∷ l) k.parts;
        claim_is = k.claim_is;
        odds_is = k.odds_is;
        clock_is = k.clock_is;
        query_is = k.query_is;
      }
  | inr fen ↦
      let f = fen_then line lines claim c odds None q next fen leads in
      record {
        clock_lines = [];
        fen_line = f.fen_line;
        parts = f.parts;
        claim_is = f.claim_is;
        odds_is = f.odds_is;
        clock_is = sym f.clock_is;
        query_is = f.query_is;
      }
]

-- what leads from the claim's line to the root
record FromClaim (f : Format) (lines : Lines) (c : Claim) (q : Asked) : Type 0 where
  claim_line : List ℕ
  odds_lines : Lines
  clock_lines : Lines
  fen_line : List ℕ
  parts : lines ≡ claim_line ∷ ((odds_lines ++ clock_lines) ++ fen_line ∷ [])
  format_is : f ≡ format_for (odds_lines ++ clock_lines)
  claim_is : said claim_of claim_line ≡ Some c
  odds_are : IsSaid odds_line no_odds odds_lines q.odds
  clock_is : IsSaid clock_demand None clock_lines q.clock
  query_is : said query_of fen_line ≡ Some (record q { odds = no_odds; clock = None })

from_demand : (lines : Lines) (claim c : Claim) (q : Asked) (line : List ℕ) → said claim_of line ≡ Some claim → Leads (DemandDue claim) lines (RootDue c q) → FromClaim Two (line ∷ lines) c q
from_demand [] claim c q line claimed leads = absurd cc
from_demand (demand ∷ lines) claim c q line claimed (next, e, leads) = elim (one_of (odds_step claim demand) (clock_step claim no_odds demand) next e) [
  | inl odds ↦
      let m = mapped_some (λ (o : List Bool). ClockOrFenDue claim o) (said odds_line demand) next odds in
      let k = from_clock lines claim c m.0 q (subst (λ (h : Head). Leads h lines (RootDue c q)) (sym m.2) leads) in
      record {
        claim_line = line;
        odds_lines = demand ∷ [];
        clock_lines = k.clock_lines;
        fen_line = k.fen_line;
        parts = ap (λ (l : Lines). line ∷ demand ∷ l) k.parts;
        format_is = refl;
        claim_is = claimed ∙ ap (λ (x : Claim). Some x) k.claim_is;
        odds_are = m.1 ∙ ap (λ (o : List Bool). Some o) k.odds_is;
        clock_is = k.clock_is;
        query_is = k.query_is;
      }
  | inr clock ↦
      let k = clock_then demand lines claim c no_odds q next clock leads in
      record {
        claim_line = line;
        odds_lines = [];
        clock_lines = demand ∷ [];
        fen_line = k.fen_line;
        parts = ap (λ (l : Lines). line ∷ demand ∷ l) k.parts;
        format_is = refl;
        claim_is = claimed ∙ ap (λ (x : Claim). Some x) k.claim_is;
        odds_are = sym k.odds_is;
        clock_is = k.clock_is;
        query_is = k.query_is;
      }
]

after_format : (f : Format) (lines : Lines) (claim c : Claim) (q : Asked) (line : List ℕ) → said claim_of line ≡ Some claim → Leads (after_claim f claim) lines (RootDue c q) → FromClaim f (line ∷ lines) c q
after_format One lines claim c q line claimed leads =
    let fen = from_fen lines claim c no_odds None q leads in
    record {
      claim_line = line;
      odds_lines = [];
      clock_lines = [];
      fen_line = fen.fen_line;
      parts = ap (λ (l : Lines). line ∷ l) fen.parts;
      format_is = refl;
      claim_is = claimed ∙ ap (λ (x : Claim). Some x) fen.claim_is;
      odds_are = sym fen.odds_is;
      clock_is = sym fen.clock_is;
      query_is = fen.query_is;
    }
after_format Two lines claim c q line claimed leads = from_demand lines claim c q line claimed leads

from_claim : (f : Format) (lines : Lines) (c : Claim) (q : Asked) → Leads (ClaimDue f) lines (RootDue c q) → FromClaim f lines c q
from_claim f [] c q leads = absurd cc
from_claim f (line ∷ lines) c q (next, e, leads) =
    let m = mapped_some (after_claim f) (said claim_of line) next e in
    after_format f lines m.0 c q line m.1 (subst (λ (h : Head). Leads h lines (RootDue c q)) (sym m.2) leads)

pub leads_head : (lines : Lines) (claim : Claim) (q : Asked) → Leads FormatDue lines (RootDue claim q) → AreHeadLines lines claim q
leads_head [] claim q leads = absurd cc
leads_head (line ∷ lines) claim q (next, e, leads) =
    let m = mapped_some (λ (f : Format). ClaimDue f) (said format_of line) next e in
    let rest = from_claim m.0 lines claim q (subst (λ (h : Head). Leads h lines (RootDue claim q)) (sym m.2) leads) in
    record {
      format_line = line;
      claim_line = rest.claim_line;
      odds_lines = rest.odds_lines;
      clock_lines = rest.clock_lines;
      fen_line = rest.fen_line;
      parts = ap (λ (l : Lines). line ∷ l) rest.parts;
      format_is = m.1 ∙ ap (λ (f : Format). Some f) rest.format_is;
      claim_is = rest.claim_is;
      odds_are = rest.odds_are;
      clock_is = rest.clock_is;
      query_is = rest.query_is;
    }

-- Of two beginnings of the same lines, one of which leads to a root, the root's goes on where the other ends.
pub record GoesOn (h : Head) (claim : Claim) (q : Asked) (x y : Lines) : Type 0 where
  pub tail : Lines
  pub leads : Leads h tail (RootDue claim q)
  pub parts : x ≡ tail ++ y

pub goes_on : (front head : Lines) (s h : Head) (claim : Claim) (q : Asked) (x y : Lines) → Leads s front h → Leads s head (RootDue claim q) → front ++ x ≡ head ++ y → GoesOn h claim q x y
goes_on [] head s h claim q x y is leads same = record { tail = head; leads = subst (λ (k : Head). Leads k head (RootDue claim q)) is leads; parts = same }
goes_on (line ∷ front) [] s h claim q x y (next, e, rest) is same =
    let none = sym (ap (λ (k : Head). head_step k line) is) ∙ e in cc
goes_on (line ∷ front) (other ∷ head) s h claim q x y (next, e, rest) (next', e', rest') same =
    let nexts : next ≡ next' = same_Some next next' (sym e ∙ ap (head_step s) (same_first same) ∙ e') in
    goes_on front head next h claim q x y rest (subst (λ (k : Head). Leads k head (RootDue claim q)) (sym nexts) rest') (same_rest same)

-- the root's line comes where it is due
pub record IsRoot (claim c : Claim) (q p : Asked) (x y : Lines) : Type 0 where
  pub claim_is : claim ≡ c
  pub query_is : q ≡ p
  pub rest : x ≡ y

pub at_root : (claim c : Claim) (q p : Asked) (x y : Lines) → GoesOn (RootDue claim q) c p x y → IsRoot claim c q p x y
at_root claim c q p x y on =
    let none = no_more on.tail claim c q p on.leads in
    let same : RootDue claim q ≡ RootDue c p = subst (λ (l : Lines). Leads (RootDue claim q) l (RootDue c p)) none on.leads in
    record {
      claim_is = root_claim claim c q p same;
      query_is = root_query claim c q p same;
      rest = on.parts ∙ ap (λ (l : Lines). l ++ y) none;
    }

-- from each line that is due some lines lead to a root

pub record Closes (h : Head) : Type 0 where
  pub lines : Lines
  pub claim : Claim
  pub query : Asked
  pub leads : Leads h lines (RootDue claim query)

closes_step : (h next : Head) (line : List ℕ) → head_step h line ≡ Some next → Closes next → Closes h
closes_step h next line e c = record { lines = line ∷ c.lines; claim = c.claim; query = c.query; leads = (next, e, c.leads) }

some_claim : List ℕ
some_claim = ended (codes "claim illegal")

claim_known : said claim_of some_claim ≡ Some Illegal
unfolding said claim_of some_claim
claim_known = refl

some_odds : List ℕ
some_odds = ended (codes "odds 0000000000000100")

odds_known : (odds : List Bool) × (said odds_line some_odds ≡ Some odds)
unfolding said odds_line odds_of set_of squares_of some_odds
odds_known = some_value (said odds_line some_odds) refl

some_fen : List ℕ
some_fen = ended (codes "fen 8/8/8/8/8/8/8/8 w - -")

some_query : Asked
some_query = asked no_men White no_rights None

fen_known : said query_of some_fen ≡ Some some_query
unfolding said query_of fen_of_four fen from_turn from_rights from_en_passant placement ranks rights rank parted places_of is_symbol some_fen some_query
fen_known = refl

one_line : List ℕ
one_line = ended (codes "retro 1")

one_known : said format_of one_line ≡ Some One
unfolding said format_of one_line
one_known = refl

closes_fen : (claim : Claim) (odds : List Bool) (clock : Option ℕ) → Closes (FenDue claim odds clock)
closes_fen claim odds clock =
    let q : Asked = record some_query { odds = odds; clock = clock } in
    closes_step (FenDue claim odds clock) (RootDue claim q) some_fen (fen_goes claim odds clock some_fen some_query fen_known) (record { lines = []; claim = claim; query = q; leads = refl })

closes_clock : (claim : Claim) (odds : List Bool) → Closes (ClockOrFenDue claim odds)
closes_clock claim odds =
    let q : Asked = record some_query { odds = odds; clock = None } in
    closes_step (ClockOrFenDue claim odds) (RootDue claim q) some_fen (fen_alone claim odds some_fen some_query fen_known) (record { lines = []; claim = claim; query = q; leads = refl })

closes_demand : (claim : Claim) → Closes (DemandDue claim)
closes_demand claim = closes_step (DemandDue claim) (ClockOrFenDue claim odds_known.0) some_odds (odds_go claim some_odds odds_known.0 odds_known.1) (closes_clock claim odds_known.0)

closes_after : (f : Format) (claim : Claim) → Closes (after_claim f claim)
closes_after One claim = closes_fen claim no_odds None
closes_after Two claim = closes_demand claim

closes_claim : (f : Format) → Closes (ClaimDue f)
closes_claim f = closes_step (ClaimDue f) (after_claim f Illegal) some_claim (ap (option_map (after_claim f)) claim_known) (closes_after f Illegal)

pub closes : (h : Head) → Closes h
closes FormatDue = closes_step FormatDue (ClaimDue One) one_line (ap (option_map (λ f. ClaimDue f)) one_known) (closes_claim One)
closes (ClaimDue f) = closes_claim f
closes (DemandDue claim) = closes_demand claim
closes (ClockOrFenDue claim odds) = closes_clock claim odds
closes (FenDue claim odds clock) = closes_fen claim odds clock
closes (RootDue claim q) = record { lines = []; claim = claim; query = q; leads = refl }
