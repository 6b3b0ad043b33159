-- Labels and their texts.
use Rattle.std.proofs.Common.{◌≡◌, ℕ, zero, suc, ◌+◌, ◌-◌, ◌<◌, ◌≤◌, ◌==◌, true, false, ◌&&◌, ◌%◌, ◌/◌, List, [], ◌∷◌, ◌++◌, length, take, take_all, drop, get_or, Option, Some, None, refl, sym, ap, ◌∙◌, arith, nat_eq, nat_le, nat_lt}
use Rattle.std.specs.Prelude.{codes}
use Rattle.std.proofs.lemmas.Bool.{and_parts, and_from, and_right, cond-false, cond_both, eqb-true, le-leb, leb-true, lt-ltb, ltb-true, ne_eqb}
use Rattle.std.proofs.lemmas.Option.{cond_some, same_Some}
use Rattle.std.proofs.lemmas.Slice.Eq.{bytes_eq-Decides}
use Rattle.std.specs.List.{starts_with}
use Rattle.std.specs.Option.{option_map}
use Rattle.std.specs.Str.{bytes_eq}
use Rattle.board_base.specs.Texts.{◌>>=◌, square_at, square_text}
use Rattle.board_base.proofs.OneText.{square_text_of}
use Rattle.board_base.proofs.TextLemmas.{bound_some, mapped_some, square_back}
use Rattle.fen_text.specs.Parts.{Free}
use Rattle.fen_text.proofs.Begun.{begun}
use Rattle.fen_text.proofs.MoveFrees.{higher, square_free}
use Rattle.fen_text.proofs.PartLemmas.{free_append}
use Rattle.sketch_text.specs.Labels.{above_of, above_text, alone, behind, capture_of, captured, is_label, is_step, is_way, label_of, label_text, officer_of, officer_text, sign_of, step_of, step_text, taken_text, victim_text, way_of, way_text}
use Rattle.sketch_text.specs.declared.labels.Victim.{Victim}
use Rattle.sketch_text.specs.declared.labels.Victim.TheVariants as victim
use Rattle.sketch_text.specs.declared.labels.Taken.{Taken}
use Rattle.sketch_text.specs.declared.labels.Taken.TheVariants as taken
use Rattle.sketch_text.specs.declared.labels.Officer.{Officer}
use Rattle.sketch_text.specs.declared.labels.Officer.TheVariants.{Knight, Rook, Queen}
use Rattle.sketch_text.specs.declared.labels.Way.{Way}
use Rattle.sketch_text.specs.declared.labels.Way.TheVariants.{Straight, Capture, Promotion, CapturePromotion}
use Rattle.sketch_text.specs.declared.labels.StepLabel.{StepLabel}
use Rattle.sketch_text.specs.declared.labels.Label.{Label}
use Rattle.sketch_text.specs.declared.labels.Label.TheVariants.{Now, Step}
use Rattle.sketch_text.proofs.InRange.{Only}

-- texts stand for their labels

above_back : (n : ℕ) → nat_le n 5 ≡ true → above_of (above_text n) ≡ Some n
above_back zero few = refl
above_back (suc zero) few = refl
above_back (suc (suc zero)) few = refl
above_back (suc (suc (suc zero))) few = refl
above_back (suc (suc (suc (suc zero)))) few = refl
above_back (suc (suc (suc (suc (suc zero))))) few = refl
above_back (suc (suc (suc (suc (suc (suc n)))))) few = let under = leb-true (suc (suc (suc (suc (suc (suc n)))))) 5 few in absurd (omega arith)

above_plain : (n : ℕ) → nat_le n 5 ≡ true → bytes_eq (above_text n) (codes "=") ≡ false
above_plain zero few = refl
above_plain (suc zero) few = refl
above_plain (suc (suc zero)) few = refl
above_plain (suc (suc (suc zero))) few = refl
above_plain (suc (suc (suc (suc zero)))) few = refl
above_plain (suc (suc (suc (suc (suc zero))))) few = refl
above_plain (suc (suc (suc (suc (suc (suc n)))))) few = let under = leb-true (suc (suc (suc (suc (suc (suc n)))))) 5 few in absurd (omega arith)

captured_back : (v : Victim) (n : ℕ) → nat_le n 5 ≡ true → captured v (above_text n) ≡ Some (Capture v n)
unfolding captured
captured_back v n few = ap (option_map (λ (k : ℕ). Capture v k)) (above_back n few)

behind_back : (t : Taken) (v : Victim) (n : ℕ) → nat_le n 5 ≡ true → behind t v (above_text n) ≡ Some (Capture v n)
unfolding behind captured
behind_back t v n few = cond-false (bytes_eq (above_text n) (codes "=")) (Some (CapturePromotion t)) (captured v (above_text n)) (above_plain n few) ∙ captured_back v n few

way_back : (w : Way) → is_way w ≡ true → way_of (sign_of w) (way_text w) ≡ Some w
unfolding way_of capture_of behind
way_back Straight known = refl
way_back Promotion known = refl
way_back (CapturePromotion taken.Bishop) known = refl
way_back (CapturePromotion taken.Officer) known = refl
way_back (Capture victim.Pawn n) known = captured_back victim.Pawn n known
way_back (Capture victim.Bishop n) known = behind_back taken.Bishop victim.Bishop n known
way_back (Capture victim.Officer n) known = behind_back taken.Officer victim.Officer n known
way_back (Capture victim.EnPassant n) known = captured_back victim.EnPassant n known

abbrev step_with : ℕ → ℕ → Way → StepLabel
step_with from to way = record { from = from; to = to; way = way }

pub step_back : (x : StepLabel) → is_step x ≡ true → step_of (step_text x) ≡ Some x
unfolding step_of step_text
step_back x known =
    let last = and_parts (nat_lt x.from 64 && nat_lt x.to 64) (is_way x.way) known in
    let both = and_parts (nat_lt x.from 64) (nat_lt x.to 64) last.0 in
    ap (λ (o : Option ℕ). o >>= (λ from. square_at (97 + x.to % 8) (49 + x.to / 8) >>= (λ to. option_map (step_with from to) (way_of (sign_of x.way) (way_text x.way))))) (square_back x.from (ltb-true x.from 64 both.0))
    ∙ ap (λ (o : Option ℕ). o >>= (λ to. option_map (step_with x.from to) (way_of (sign_of x.way) (way_text x.way)))) (square_back x.to (ltb-true x.to 64 both.1))
    ∙ ap (option_map (step_with x.from x.to)) (way_back x.way last.1)

pub officer_back : (k : Officer) → officer_of (officer_text k) ≡ Some k
unfolding officer_of
officer_back Knight = refl
officer_back Rook = refl
officer_back Queen = refl

-- and no other texts do

-- the text behind a sign is that of a way
pub record IsWayText (sign : ℕ) (text : List ℕ) (w : Way) : Type 0 where
  pub sign_is : sign ≡ sign_of w
  pub text_is : text ≡ way_text w
  pub known : is_way w ≡ true

record IsAbove (text : List ℕ) (n : ℕ) : Type 0 where
  text_is : text ≡ above_text n
  few : nat_le n 5 ≡ true

above_read : (text : List ℕ) → Only (IsAbove text) (above_of text)
above_read [] n e = let same : 0 ≡ n = same_Some 0 n e in record { text_is = ap above_text same; few = ap (λ (k : ℕ). nat_le k 5) (sym same) }
above_read (d ∷ []) n e =
    let digit = cond_some (nat_le 49 d && nat_le d 53) (d - 48) n e in
    let parts = and_parts (nat_le 49 d) (nat_le d 53) digit.0 in
    let low = leb-true 49 d parts.0 in
    let high = leb-true d 53 parts.1 in
    let same : d - 48 ≡ n = digit.1 in
    record {
      text_is = ap (λ (k : ℕ). k ∷ []) (let is : d ≡ 48 + n = omega arith in is) ∙ sym (cond-false (n == 0) [] ((48 + n) ∷ []) (ne_eqb n 0 (λ z. omega arith)));
      few = le-leb n 5 (omega arith);
    }
above_read (d ∷ c ∷ rest) n e = absurd cc

captured_read : (v : Victim) (text : List ℕ) → Only (IsWayText 120 (victim_text v ++ text)) (captured v text)
unfolding captured
captured_read v text w e =
    let m = mapped_some (λ (n : ℕ). Capture v n) (above_of text) w e in
    let above = above_read text m.0 m.1 in
    record { sign_is = ap sign_of m.2; text_is = ap (λ (l : List ℕ). victim_text v ++ l) above.text_is ∙ ap way_text m.2; known = ap is_way (sym m.2) ∙ above.few }

behind_read : (t : Taken) (v : Victim) (text : List ℕ) → taken_text t ≡ victim_text v → Only (IsWayText 120 (victim_text v ++ text)) (behind t v text)
unfolding behind captured
behind_read t v text same =
    cond_both (bytes_eq text (codes "=")) _ _ (Only (IsWayText 120 (victim_text v ++ text))) (λ equal w e.
    let one : CapturePromotion t ≡ w = same_Some _ _ e in
    record {
      sign_is = ap sign_of one;
      text_is = ap (λ (l : List ℕ). victim_text v ++ l) ((bytes_eq-Decides text (codes "=")).0 equal) ∙ ap (λ (l : List ℕ). l ++ codes "=") (sym same) ∙ ap way_text one;
      known = ap is_way (sym one);
    }) (λ other. captured_read v text)

moved_text : (sign : ℕ) (a b : List ℕ) (w : Way) → a ≡ b → IsWayText sign b w → IsWayText sign a w
moved_text sign a b w same is = record { sign_is = is.sign_is; text_is = same ∙ is.text_is; known = is.known }

no_way : (sign : ℕ) (text : List ℕ) → Only (IsWayText sign text) None
no_way sign text w e = absurd cc

capture_read : (text : List ℕ) → Only (IsWayText 120 text) (capture_of text)
unfolding capture_of
capture_read text =
    cond_both (starts_with nat_eq text (codes "nrq")) _ _ (Only (IsWayText 120 text)) (λ t w e. moved_text 120 _ _ w (begun text (codes "nrq") t) (behind_read taken.Officer victim.Officer (drop 3 text) refl w e)) (λ f.
    cond_both (starts_with nat_eq text (codes "ep")) _ _ (Only (IsWayText 120 text)) (λ t w e. moved_text 120 _ _ w (begun text (codes "ep") t) (captured_read victim.EnPassant (drop 2 text) w e)) (λ f.
    cond_both (starts_with nat_eq text (codes "p")) _ _ (Only (IsWayText 120 text)) (λ t w e. moved_text 120 _ _ w (begun text (codes "p") t) (captured_read victim.Pawn (drop 1 text) w e)) (λ f.
    cond_both (starts_with nat_eq text (codes "b")) _ _ (Only (IsWayText 120 text)) (λ t w e. moved_text 120 _ _ w (begun text (codes "b") t) (behind_read taken.Bishop victim.Bishop (drop 1 text) refl w e)) (λ f.
    no_way 120 text))))

alone_read : (way : Way) (text : List ℕ) → way_text way ≡ [] → is_way way ≡ true → Only (IsWayText (sign_of way) text) (alone way text)
alone_read way [] empty known w e = let one : way ≡ w = same_Some way w e in record { sign_is = ap sign_of one; text_is = sym empty ∙ ap way_text one; known = ap is_way (sym one) ∙ known }
alone_read way (b ∷ text) empty known w e = absurd cc

other_sign : (sign other : ℕ) (text : List ℕ) (w : Way) → sign ≡ other → IsWayText other text w → IsWayText sign text w
other_sign sign other text w same is = record { sign_is = same ∙ is.sign_is; text_is = is.text_is; known = is.known }

way_read : (sign : ℕ) (text : List ℕ) → Only (IsWayText sign text) (way_of sign text)
unfolding way_of
way_read sign text =
    cond_both (sign == 45) _ _ (Only (IsWayText sign text)) (λ t w e. other_sign sign 45 text w (eqb-true sign 45 t) (alone_read Straight text refl refl w e)) (λ f.
    cond_both (sign == 61) _ _ (Only (IsWayText sign text)) (λ t w e. other_sign sign 61 text w (eqb-true sign 61 t) (alone_read Promotion text refl refl w e)) (λ f.
    cond_both (sign == 120) _ _ (Only (IsWayText sign text)) (λ t w e. other_sign sign 120 text w (eqb-true sign 120 t) (capture_read text w e)) (λ f.
    no_way sign text)))

-- a text is that of a step
pub record IsStepText (text : List ℕ) (x : StepLabel) : Type 0 where
  pub text_is : text ≡ step_text x
  pub known : is_step x ≡ true

step_made : (a b sign c d : ℕ) (text : List ℕ) (x : StepLabel) (from to : ℕ) (way : Way) → square_at a b ≡ Some from → square_at c d ≡ Some to → IsWayText sign text way → step_with from to way ≡ x → IsStepText (a ∷ b ∷ sign ∷ c ∷ d ∷ text) x
unfolding step_text
step_made a b sign c d text x from to way first second is same =
    let f = square_text_of a b from first in
    let t = square_text_of c d to second in
    record {
      text_is = ap (λ (y : ℕ). y ∷ b ∷ sign ∷ c ∷ d ∷ text) f.file ∙ ap (λ (y : ℕ). (97 + from % 8) ∷ y ∷ sign ∷ c ∷ d ∷ text) f.rank ∙ ap (λ (y : ℕ). (97 + from % 8) ∷ (49 + from / 8) ∷ y ∷ c ∷ d ∷ text) is.sign_is
          ∙ ap (λ (y : ℕ). (97 + from % 8) ∷ (49 + from / 8) ∷ sign_of way ∷ y ∷ d ∷ text) t.file ∙ ap (λ (y : ℕ). (97 + from % 8) ∷ (49 + from / 8) ∷ sign_of way ∷ (97 + to % 8) ∷ y ∷ text) t.rank
          ∙ ap (λ (l : List ℕ). (97 + from % 8) ∷ (49 + from / 8) ∷ sign_of way ∷ (97 + to % 8) ∷ (49 + to / 8) ∷ l) is.text_is ∙ ap step_text same;
      known = ap is_step (sym same) ∙ and_from _ _ (and_from _ _ (lt-ltb from 64 f.on_board) (lt-ltb to 64 t.on_board)) is.known;
    }

pub step_read : (text : List ℕ) → Only (IsStepText text) (step_of text)
unfolding step_of
step_read (a ∷ b ∷ sign ∷ c ∷ d ∷ text) x e =
    let one = bound_some (square_at a b) (λ from. square_at c d >>= (λ to. option_map (step_with from to) (way_of sign text))) x e in
    let two = bound_some (square_at c d) (λ to. option_map (step_with one.0 to) (way_of sign text)) x one.2 in
    let three = mapped_some (step_with one.0 two.0) (way_of sign text) x two.2 in
    step_made a b sign c d text x one.0 two.0 three.0 one.1 two.1 (way_read sign text three.0 three.1) three.2
step_read [] x e = absurd cc
step_read (a ∷ []) x e = absurd cc
step_read (a ∷ b ∷ []) x e = absurd cc
step_read (a ∷ b ∷ c ∷ []) x e = absurd cc
step_read (a ∷ b ∷ c ∷ d ∷ []) x e = absurd cc

-- a text is that of a label that is no kind
pub record IsLabelText (text : List ℕ) (l : Label) : Type 0 where
  pub text_is : text ≡ label_text l
  pub known : is_label l ≡ true

pub label_read : (text : List ℕ) → Only (IsLabelText text) (label_of text)
unfolding label_of label_text
label_read text =
    cond_both (bytes_eq text (codes "now")) _ _ (Only (IsLabelText text)) (λ t l e.
    let one : Now ≡ l = same_Some _ _ e in
    record { text_is = (bytes_eq-Decides text (codes "now")).0 t ∙ ap label_text one; known = ap is_label (sym one) }) (λ f l e.
    let m = mapped_some (λ (x : StepLabel). Step x) (step_of text) l e in
    let step = step_read text m.0 m.1 in
    record { text_is = step.text_is ∙ ap label_text m.2; known = ap is_label (sym m.2) ∙ step.known })

-- the kinds
officer_named : (name text : List ℕ) (k l : Officer) → officer_text k ≡ name → bytes_eq text name ≡ true → Some k ≡ Some l → text ≡ officer_text l
officer_named name text k l is same e = (bytes_eq-Decides text name).0 same ∙ sym is ∙ ap officer_text (same_Some k l e)

pub officer_read : (text : List ℕ) → Only (λ k. text ≡ officer_text k) (officer_of text)
unfolding officer_of
officer_read text =
    cond_both (bytes_eq text (codes "n")) _ _ (Only (λ (k : Officer). text ≡ officer_text k)) (λ t l e. officer_named (codes "n") text Knight l refl t e) (λ f.
    cond_both (bytes_eq text (codes "r")) _ _ (Only (λ (k : Officer). text ≡ officer_text k)) (λ t l e. officer_named (codes "r") text Rook l refl t e) (λ f.
    cond_both (bytes_eq text (codes "q")) _ _ (Only (λ (k : Officer). text ≡ officer_text k)) (λ t l e. officer_named (codes "q") text Queen l refl t e) (λ f l e. absurd cc)))

-- no space stands in a step, and none in the name of a kind

above_free : (n : ℕ) → nat_le n 5 ≡ true → Free 32 (above_text n)
above_free zero few = refl
above_free (suc zero) few = refl
above_free (suc (suc zero)) few = refl
above_free (suc (suc (suc zero))) few = refl
above_free (suc (suc (suc (suc zero)))) few = refl
above_free (suc (suc (suc (suc (suc zero))))) few = refl
above_free (suc (suc (suc (suc (suc (suc n)))))) few = let under = leb-true (suc (suc (suc (suc (suc (suc n)))))) 5 few in absurd (omega arith)

victim_free : (v : Victim) → Free 32 (victim_text v)
victim_free victim.Pawn = refl
victim_free victim.Bishop = refl
victim_free victim.Officer = refl
victim_free victim.EnPassant = refl

way_free : (w : Way) → is_way w ≡ true → Free 32 (sign_of w ∷ way_text w)
way_free Straight known = refl
way_free Promotion known = refl
way_free (CapturePromotion taken.Bishop) known = refl
way_free (CapturePromotion taken.Officer) known = refl
way_free (Capture v n) known = higher 32 120 (victim_text v ++ above_text n) (omega arith) (free_append 32 (victim_text v) (above_text n) (victim_free v) (above_free n known))

pub step_free : (x : StepLabel) → is_way x.way ≡ true → Free 32 (step_text x)
unfolding step_text
step_free x known =
    let way = and_parts _ _ (way_free x.way known) in
    free_append 32 (square_text x.from) (sign_of x.way ∷ (square_text x.to ++ way_text x.way)) (square_free 32 x.from (omega arith))
    (and_from _ _ way.0 (free_append 32 (square_text x.to) (way_text x.way) (square_free 32 x.to (omega arith)) way.1))

no_now : (x : StepLabel) → bytes_eq (step_text x) (codes "now") ≡ false
unfolding step_text
no_now x = and_right (nat_eq (97 + x.from % 8) 110) _ (and_right (nat_eq (49 + x.from / 8) 111) _ (and_right (nat_eq (sign_of x.way) 119) _ refl))

-- a step isn't `now`
pub step_label : (x : StepLabel) → is_step x ≡ true → label_of (step_text x) ≡ Some (Step x)
unfolding label_of
step_label x known = cond-false (bytes_eq (step_text x) (codes "now")) (Some Now) (option_map (λ (y : StepLabel). Step y) (step_of (step_text x))) (no_now x) ∙ ap (option_map (λ (y : StepLabel). Step y)) (step_back x known)

pub officer_free : (k : Officer) → Free 32 (officer_text k)
officer_free Knight = refl
officer_free Rook = refl
officer_free Queen = refl

-- the step of a text of at least five bytes
pub step_at : (text : List ℕ) (from to : Option ℕ) (way : Option Way) → 5 ≤ length text → square_at (get_or text 0 0) (get_or text 1 0) ≡ from → square_at (get_or text 3 0) (get_or text 4 0) ≡ to → way_of (get_or text 2 0) (take (length text - 5) (drop 5 text)) ≡ way → step_of text ≡ (from >>= (λ f. to >>= (λ t. option_map (step_with f t) way)))
unfolding step_of
step_at (a ∷ b ∷ sign ∷ c ∷ d ∷ text) from to way long p q r =
    let all : take (length (a ∷ b ∷ sign ∷ c ∷ d ∷ text) - 5) text ≡ text = take_all (length (a ∷ b ∷ sign ∷ c ∷ d ∷ text) - 5) text (omega arith) in
    let behind : way_of sign text ≡ way = ap (way_of sign) (sym all) ∙ r in
    rw (sym p, sym q, sym behind) refl
step_at [] from to way long p q r = absurd (omega arith)
step_at (a ∷ []) from to way long p q r = absurd (omega arith)
step_at (a ∷ b ∷ []) from to way long p q r = absurd (omega arith)
step_at (a ∷ b ∷ c ∷ []) from to way long p q r = absurd (omega arith)
step_at (a ∷ b ∷ c ∷ d ∷ []) from to way long p q r = absurd (omega arith)

-- and of a shorter one there is none
pub short_step : (text : List ℕ) → length text < 5 → step_of text ≡ None
unfolding step_of
short_step [] short = refl
short_step (a ∷ []) short = refl
short_step (a ∷ b ∷ []) short = refl
short_step (a ∷ b ∷ c ∷ []) short = refl
short_step (a ∷ b ∷ c ∷ d ∷ []) short = refl
short_step (a ∷ b ∷ c ∷ d ∷ e ∷ text) short = absurd (omega arith)
