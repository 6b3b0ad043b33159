-- How long the lines of a certificate are.
use Rattle.std.proofs.Common.{◌≡◌, ◌≢◌, ℕ, ◌+◌, ◌*◌, ◌<◌, ◌≤◌, Bool, true, List, [], ◌∷◌, length, drop, nat_eq, Option, Some, None, refl, ap, ◌∙◌, arith, length-append}
use Rattle.std.specs.Prelude.{codes, ℤ}
use Rattle.std.specs.Fmt.{signed_decimal}
use Rattle.std.specs.List.{list_all, starts_with}
use Rattle.std.proofs.lemmas.Bool.{and_parts, eqb-true, leb-true}
use Rattle.std.proofs.lemmas.Fmt.{length-decimal-le}
use Rattle.board_base.specs.Potentials.{Duals}
use Rattle.board_base.specs.Texts.{unmove_text}
use Rattle.board_base.proofs.TextLemmas.{move_short, unmove_short}
use Rattle.board_base.specs.declared.unmoves.Unmove.{Unmove}
use Rattle.query_base.specs.Asked.{Asked}
use Rattle.query_base.specs.declared.claims.Claim.{Claim}
use Rattle.query_base.specs.declared.claims.Claim.TheVariants.{Illegal, Last, Lost, Ep}
use Rattle.query_base.specs.declared.rule_lines.RuleLine.{RuleLine}
use Rattle.query_base.specs.declared.rule_lines.RuleLine.TheVariants.{Kings, Ranks, Check, Rights, Count, Frozen, Caps, Promo}
use Rattle.fen_text.specs.Fen.{fen_of_four}
use Rattle.fen_text.proofs.OneText.{four_short}
use Rattle.fen_text.specs.Sets.{is_whole, set_text}
use Rattle.cert_text.specs.Arguments.{potentials_text}
use Rattle.std.specs.Option.{option_map, option_or}
use Rattle.board_base.specs.Board.{no_odds}
use Rattle.fen_text.specs.ClockLines.{clock_line}
use Rattle.fen_text.specs.OddsLines.{odds_line}
use Rattle.fen_text.proofs.ClockTexts.{clock_read}
use Rattle.fen_text.proofs.OddsTexts.{line_read}
use Rattle.cert_text.specs.Certificate.{format_of, query_of}
use Rattle.cert_text.specs.Heads.{after_claim, clock_step, fen_step, head_step}
use Rattle.cert_text.specs.Written.{format_text}
use Rattle.cert_text.specs.declared.heads.Format.{Format}
use Rattle.cert_text.specs.declared.heads.Format.TheVariants.{One, Two}
use Rattle.cert_text.specs.declared.heads.Head.{Head}
use Rattle.cert_text.specs.declared.heads.Head.TheVariants.{FormatDue, ClaimDue, DemandDue, ClockOrFenDue, FenDue, RootDue}
use Rattle.cert_text.proofs.HeadTexts.{format_text_read}
use Rattle.cert_text.specs.ClaimLines.{claim_of, claim_text}
use Rattle.cert_text.specs.Lines.{ended, said}
use Rattle.cert_text.specs.Mute.{IsMute}
use Rattle.cert_text.specs.NodeLines.{body_text, kid_body, reason_name, root_body, rule_name}
use Rattle.cert_text.specs.Writable.{are_near, fits_depth, is_near, is_reason, is_rule}
use Rattle.capture_prices.specs.Prices.{are_prices}
use Rattle.price_text.specs.PriceTexts.{prices_text}
use Rattle.cert_text.specs.declared.reasons.Reason.{Reason}
use Rattle.cert_text.specs.declared.reasons.Reason.TheVariants.{Line, Balance}
use Rattle.price_text.proofs.PricesWritten.{prices_short}
use Rattle.cert_text.specs.declared.node_lines.BodyLine.{BodyLine}
use Rattle.cert_text.specs.declared.node_lines.BodyLine.TheVariants.{Rule, Back, Expand, Sketch}
use Rattle.fen_text.proofs.Begun.{begun}
use Rattle.sketch_text.specs.Trees.{of_marks, of_node}
use Rattle.sketch_text.proofs.PlainTexts.{plain_head, plain_marks, plain_node}
use Rattle.sketch_body.specs.Bodies.{Item, of_line, of_prices}
use Rattle.sketch_body.specs.Due.{Reading}
use Rattle.sketch_body.specs.Due as sketches
use Rattle.sketch_body.specs.Texts.{is_item, item_text}
use Rattle.sketch_body.proofs.Closing.{says_is}
use Rattle.sketch_body.proofs.Steps.{step_parts}
use Rattle.cert_text.proofs.ClaimTexts.{text_read}
use Rattle.fen_text.proofs.HexTexts.{set_length}
use Rattle.cert_text.proofs.NearNumbers.{within}
use Rattle.cert_text.proofs.Spelled.{number_in}
use Rattle.cert_text.proofs.SpelledLines.{kid_text_read, nothing_said, root_text_read, said_read, when}
use Rattle.cert_text.proofs.WordTexts.{near_parts}
use Rattle.cert_text.proofs.WrittenNumbers.{joined-both, signed_short, spaced_before, spaced_behind}

-- at most three bytes for each number, and a space

behind_short : (xs : List ℤ) → list_all is_near xs ≡ true → length (spaced_behind xs) ≤ 4 * length xs
behind_short [] near = omega arith
behind_short (x ∷ xs) near =
    let parts = and_parts (is_near x) (list_all is_near xs) near in
    omega (arith, signed_short x (within x parts.0), behind_short xs parts.1, length-append (signed_decimal x) (32 ∷ spaced_behind xs))

before_short : (xs : List ℤ) → list_all is_near xs ≡ true → length (spaced_before xs) ≤ 4 * length xs
before_short [] near = omega arith
before_short (x ∷ xs) near =
    let parts = and_parts (is_near x) (list_all is_near xs) near in
    omega (arith, signed_short x (within x parts.0), before_short xs parts.1, length-append (signed_decimal x) (spaced_before xs))

pub duals_short : (width : ℕ) (d : Duals) → are_near width d ≡ true → length (potentials_text d) ≤ 8 * width + 1
unfolding potentials_text
duals_short width d near =
    let n = near_parts width d near in
    omega (arith, ap length (joined-both d.u d.v), leb-true (length d.u) width n.u_few, eqb-true (length d.v) width n.v_size, behind_short d.u n.u, before_short d.v n.v, length-append (spaced_behind d.u) (47 ∷ spaced_before d.v))

rule_short : (r : RuleLine) → is_rule r ≡ true → length (rule_name r) ≤ 89
rule_short Kings known = omega arith
rule_short Ranks known = omega arith
rule_short Check known = omega arith
rule_short Rights known = omega arith
rule_short (Count side) known = omega arith
rule_short (Frozen set) known = omega (arith, set_length set)
rule_short (Caps side set p) known =
    let parts = and_parts (is_whole set) (are_near 8 p) known in
    omega (arith, set_length set, duals_short 8 p parts.1, length-append (set_text set) (32 ∷ potentials_text p))
rule_short (Promo side set) known = omega (arith, set_length set)

name_short : (r : Reason) → is_reason r ≡ true → length (reason_name r) ≤ 220
name_short (Line r) known = omega (arith, rule_short r known)
name_short (Balance set p) known =
    let parts = and_parts (is_whole set) (are_prices p) known in
    omega (arith, set_length set, prices_short p parts.1, length-append (set_text set) (32 ∷ prices_text p))

body_short : (depth : ℕ) (b : BodyLine) → fits_depth depth b ≡ true → number_in b ≤ 999999 → length (body_text b) ≤ 225
body_short depth (Rule r) fits few = omega (arith, name_short r fits)
body_short depth (Back k) fits few = omega (arith, length-decimal-le 6 k (omega arith) (omega arith) (omega arith))
body_short depth (Expand n) fits few = omega (arith, length-decimal-le 6 n (omega arith) (omega arith) (omega arith))
body_short depth (Sketch h) fits few = let plain = plain_head h fits in let short = plain.short in omega arith

pub claim_short : (claim : Claim) → length (claim_text claim) ≤ 16
claim_short Illegal = omega arith
claim_short (Last m) = omega (arith, move_short m)
claim_short (Lost x) = omega arith
claim_short (Ep m) = omega (arith, move_short m)

-- no text of a grammar has more than 233 bytes

pub query_text_short : (text : List ℕ) (q : Asked) → query_of text ≡ Some q → length text ≤ 85
unfolding query_of
query_text_short text q e =
    let parts = when (starts_with nat_eq text (codes "fen ")) (fen_of_four (drop 4 text)) q e in
    omega (arith, four_short (drop 4 text) q parts.1, ap length (begun text (codes "fen ") parts.0), length-append (codes "fen ") (drop 4 text))

claim_text_short : (text : List ℕ) (claim : Claim) → claim_of text ≡ Some claim → length text ≤ 16
claim_text_short text claim e = omega (arith, ap length (text_read text claim e).text_is, claim_short claim)

root_text_short : (text : List ℕ) (b : BodyLine) → root_body text ≡ Some b → length text ≤ 230
root_text_short text b e =
    let read = root_text_read text b e in
    omega (arith, ap length read.text_is, body_short 0 b read.fits read.few)

kid_text_short : (depth : ℕ) (text : List ℕ) (u : Unmove) (b : BodyLine) → kid_body depth text ≡ Some (u, b) → length text ≤ 233
kid_text_short depth text u b e =
    let read = kid_text_read depth text u b e in
    omega (arith, ap length read.text_is, length-append (unmove_text u) (32 ∷ body_text b), unmove_short u, body_short depth b read.fits read.few)

pub item_short : (P : ℕ) (i : Item) → P ≤ 64 → is_item P i ≡ true → length (item_text i) ≤ 195
item_short P (of_prices p) low known = prices_short p known
item_short P (of_line (of_node x)) low known = let plain = plain_node P x low known in let short = plain.short in omega arith
item_short P (of_line (of_marks m)) low known = let plain = plain_marks P m low known in let short = plain.short in omega arith

sketch_text_short : (r : Reading) (text : List ℕ) (p : Item × Reading) → r.due.prices ≤ 64 → sketches.step r text ≡ Some p → length text ≤ 195
sketch_text_short r text p low e =
    let s = step_parts r text p.0 p.1 e in
    let is = says_is r.due.prices text p.0 s.says in
    omega (arith, ap length is.text_is, item_short r.due.prices p.0 low is.known)

-- the line of a grammar's short texts is short
pub line_short : {A : Type 0} (grammar : List ℕ → Option A) (most : ℕ) (line : List ℕ) (x : A) → ((text : List ℕ) → grammar text ≡ Some x → length text ≤ most) → said grammar line ≡ Some x → length line ≤ most + 1
line_short grammar most line x short e =
    let s = said_read grammar line x e in
    omega (arith, short s.text s.stands, ap length s.line_is, length-append s.text (10 ∷ []))

format_short : (f : Format) → length (format_text f) ≤ 7
format_short One = omega arith
format_short Two = omega arith

format_text_short : (text : List ℕ) (f : Format) → format_of text ≡ Some f → length text ≤ 7
format_text_short text f e = omega (arith, ap length (format_text_read text f e), format_short f)

pub odds_text_short : (text : List ℕ) (odds : List Bool) → odds_line text ≡ Some odds → length text ≤ 21
odds_text_short text odds e = omega (arith, ap length (line_read text odds e).text_is, set_length odds)

clock_text_short : (text : List ℕ) (n : ℕ) → clock_line text ≡ Some n → length text ≤ 10
clock_text_short text n e =
    let read = clock_read text n e in
    let short = read.short in
    omega (arith, ap length read.text_is, length-decimal-le 4 n (omega arith) (omega arith) (omega arith))

no_fen_step : (claim : Claim) (odds : List Bool) (clock : Option ℕ) (line : List ℕ) → said query_of line ≡ None → fen_step claim odds clock line ≡ None
no_fen_step claim odds clock line q = ap (option_map (λ x. RootDue claim (record x { odds = odds; clock = clock }))) q

no_clock_step : (claim : Claim) (odds : List Bool) (line : List ℕ) → said clock_line line ≡ None → clock_step claim odds line ≡ None
no_clock_step claim odds line k = ap (option_map (λ n. FenDue claim odds (Some n))) k

-- a head goes on with no line that nothing is said by
no_step : (line : List ℕ) → said format_of line ≡ None → said claim_of line ≡ None → said odds_line line ≡ None → said clock_line line ≡ None → said query_of line ≡ None → (due : Head) → head_step due line ≡ None
no_step line f c o k q FormatDue = ap (option_map (λ x. ClaimDue x)) f
no_step line f c o k q (ClaimDue format) = ap (option_map (after_claim format)) c
no_step line f c o k q (DemandDue claim) =
    ap (λ (x : Option (List Bool)). option_or (option_map (λ odds. ClockOrFenDue claim odds) x) (clock_step claim no_odds line)) o ∙ no_clock_step claim no_odds line k
no_step line f c o k q (ClockOrFenDue claim odds) =
    ap (λ (x : Option Head). option_or x (fen_step claim odds None line)) (no_clock_step claim odds line k) ∙ no_fen_step claim odds None line q
no_step line f c o k q (FenDue claim odds clock) = no_fen_step claim odds clock line q
no_step line f c o k q (RootDue claim query) = refl

-- a line of more than 234 bytes
pub long_mute : (line : List ℕ) → 234 < length line → IsMute line
long_mute line long = record {
  head = no_step line
      (nothing_said format_of line (λ x e. let short = line_short format_of 7 line x (λ text. format_text_short text x) e in omega arith))
      (nothing_said claim_of line (λ x e. let short = line_short claim_of 16 line x (λ text. claim_text_short text x) e in omega arith))
      (nothing_said odds_line line (λ x e. let short = line_short odds_line 21 line x (λ text. odds_text_short text x) e in omega arith))
      (nothing_said clock_line line (λ x e. let short = line_short clock_line 10 line x (λ text. clock_text_short text x) e in omega arith))
      (nothing_said query_of line (λ x e. let short = line_short query_of 85 line x (λ text. query_text_short text x) e in omega arith));
  root = nothing_said root_body line (λ x e. let short = line_short root_body 230 line x (λ text. root_text_short text x) e in omega arith);
  kid = λ depth. nothing_said (kid_body depth) line (λ x e. let short = line_short (kid_body depth) 233 line x (λ text. kid_text_short depth text x.0 x.1) e in omega arith);
  sketch = λ r low. nothing_said (sketches.step r) line (λ x e. let short = line_short (sketches.step r) 195 line x (λ text. sketch_text_short r text x low) e in omega arith);
}

-- lines whose reason, if there is one, is a rule line

abbrev pub IsBrief : BodyLine → Type 0
IsBrief (Rule (Line r)) = Unit {0}
IsBrief (Rule (Balance set p)) = ⊥
IsBrief (Back k) = Unit {0}
IsBrief (Expand n) = Unit {0}
IsBrief (Sketch h) = Unit {0}

body_brief : (depth : ℕ) (b : BodyLine) → IsBrief b → fits_depth depth b ≡ true → number_in b ≤ 999999 → length (body_text b) ≤ 94
body_brief depth (Rule (Line r)) brief fits few = omega (arith, rule_short r fits)
body_brief depth (Rule (Balance set p)) brief fits few = absurd brief
body_brief depth (Back k) brief fits few = omega (arith, length-decimal-le 6 k (omega arith) (omega arith) (omega arith))
body_brief depth (Expand n) brief fits few = omega (arith, length-decimal-le 6 n (omega arith) (omega arith) (omega arith))
body_brief depth (Sketch h) brief fits few = let plain = plain_head h fits in let short = plain.short in omega arith

-- they have at most 128 bytes

pub root_line_brief : (line : List ℕ) (b : BodyLine) → IsBrief b → said root_body line ≡ Some b → length line ≤ 128
root_line_brief line b brief e =
    let s = said_read root_body line b e in
    let read = root_text_read s.text b s.stands in
    omega (arith, ap length s.line_is, length-append s.text (10 ∷ []), ap length read.text_is, body_brief 0 b brief read.fits read.few)

pub kid_line_brief : (depth : ℕ) (line : List ℕ) (u : Unmove) (b : BodyLine) → IsBrief b → said (kid_body depth) line ≡ Some (u, b) → length line ≤ 128
kid_line_brief depth line u b brief e =
    let s = said_read (kid_body depth) line (u, b) e in
    let read = kid_text_read depth s.text u b s.stands in
    omega (arith, ap length s.line_is, length-append s.text (10 ∷ []), ap length read.text_is, length-append (unmove_text u) (32 ∷ body_text b), unmove_short u, body_brief depth b brief read.fits read.few)

-- a line with no end
unended_said : {A : Type 0} (grammar : List ℕ → Option A) (line : List ℕ) → ((text : List ℕ) → line ≢ ended text) → said grammar line ≡ None
unended_said grammar line other = nothing_said grammar line (λ x e. let s = said_read grammar line x e in other s.text s.line_is)

pub unended_mute : (line : List ℕ) → ((text : List ℕ) → line ≢ ended text) → IsMute line
unended_mute line other = record {
  head = no_step line (unended_said format_of line other) (unended_said claim_of line other) (unended_said odds_line line other) (unended_said clock_line line other) (unended_said query_of line other);
  root = unended_said root_body line other;
  kid = λ depth. unended_said (kid_body depth) line other;
  sketch = λ r low. unended_said (sketches.step r) line other;
}
