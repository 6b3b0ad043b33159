-- Lines that are gathered byte by byte.
use Rattle.std.proofs.Common.{◌≡◌, ◌≢◌, ℕ, zero, suc, ◌+◌, ◌<◌, ◌≤◌, ◌==◌, Bool, true, false, List, [], ◌∷◌, ◌++◌, length, get_or, take, refl, sym, ap, ◌∙◌, subst, arith, append_assoc, length-append}
use Rattle.std.proofs.lemmas.Bool.{ne_eqb, cond-false}
use Rattle.std.specs.Prelude.{Option, None}
use Rattle.std.specs.List.{onto_first}
use Rattle.std.specs.Option.{option_and_then, option_map}
use Rattle.board_base.specs.declared.unmoves.Unmove.{Unmove}
use Rattle.query_base.specs.Asked.{Asked}
use Rattle.query_base.specs.declared.claims.Claim.{Claim}
use Rattle.sketch_body.specs.Bodies.{Item}
use Rattle.sketch_body.specs.Due.{Reading}
use Rattle.cert_text.specs.Lines.{cut, ended}
use Rattle.cert_text.specs.Mute.{IsMute}
use Rattle.cert_text.specs.Certificate.{Lines}
use Rattle.cert_text.specs.declared.heads.Head.{Head}
use Rattle.cert_text.specs.declared.heads.Head.TheVariants.{FormatDue, ClaimDue, DemandDue, ClockOrFenDue, FenDue, RootDue}
use Rattle.cert_text.specs.Due.{Due, closed, kid_step, nodes_due, put_due, sketch_due, step}
use Rattle.cert_text.specs.declared.node_lines.BodyLine.{BodyLine}
use Rattle.cert_text.proofs.Cuts.{cut-whole}
use Rattle.cert_checker.specs.Answers.{Answer, Answers, bad_text}
use Rattle.cert_checker.specs.Frames.{Walking}
use Rattle.cert_checker.specs.Stages.{OnHead, Stage, bad, in_head, nodes, headed, Rooted, Stepped, NextStage, Rest, answer_at}
use Rattle.cert_checker.specs.Staging.{IsLow, IsPart, NoEnd, halted_at}
use Rattle.cert_checker.proofs.Answering.{rest_bad}

pub no_end_both : (g h : List ℕ) → NoEnd g → NoEnd h → NoEnd (g ++ h)
no_end_both [] h none plain = plain
no_end_both (b ∷ g) h none plain = (none.0, no_end_both g h none.1 plain)

-- bytes before which no place ends a line
pub no_end_before : (bytes : List ℕ) (n : ℕ) → n ≤ length bytes → ((k : ℕ) → k < n → get_or bytes k 0 ≢ 10) → NoEnd (take n bytes)
no_end_before bytes zero within other = tt
no_end_before [] (suc n) within other = tt
no_end_before (b ∷ bytes) (suc n) within other =
    (other 0 (omega arith), no_end_before bytes n (omega arith) (λ k below. other (suc k) (omega arith)))

-- a line ends
cut_end : (g others : List ℕ) → NoEnd g → cut (g ++ 10 ∷ others) ≡ (g ++ 10 ∷ []) ∷ cut others
cut_end [] others none = refl
cut_end (b ∷ g) others none = cond-false (b == 10) _ _ (ne_eqb b 10 none.0) ∙ ap (onto_first b) (cut_end g others none.1)

-- what is gathered, and a part that ends the line
pub ended_line : (g part others : List ℕ) → NoEnd g → IsPart true part → cut (g ++ (part ++ others)) ≡ (g ++ part) ∷ cut others
ended_line g part others none (front, plain, whole) =
    ap (λ (l : List ℕ). cut (g ++ (l ++ others))) whole ∙ ap (λ (l : List ℕ). cut (g ++ l)) (append_assoc front (10 ∷ []) others) ∙ ap cut (sym (append_assoc g front (10 ∷ others)))
    ∙ cut_end (g ++ front) others (no_end_both g front none plain) ∙ ap (λ (l : List ℕ). l ∷ cut others) (append_assoc g front (10 ∷ []) ∙ ap (λ (l : List ℕ). g ++ l) (sym whole))

onto_long : (b : ℕ) (lines : List (List ℕ)) → (line : List ℕ) × (others : List (List ℕ)) × (onto_first b lines ≡ line ∷ others) × (1 ≤ length line)
onto_long b [] = (b ∷ [], [], refl, omega arith)
onto_long b (l ∷ lines) = (b ∷ l, lines, refl, omega arith)

-- bytes of which none ends a line begin the first line
cut_long : (b : ℕ) (g others : List ℕ) → NoEnd (b ∷ g) → (line : List ℕ) × (lines : List (List ℕ)) × (cut ((b ∷ g) ++ others) ≡ line ∷ lines) × (length (b ∷ g) ≤ length line)
cut_long b [] others none =
    let o = onto_long b (cut others) in
    (o.0, o.1, cond-false (b == 10) _ _ (ne_eqb b 10 none.0) ∙ o.2, o.3)
cut_long b (c ∷ g) others none =
    let o = cut_long c g others none.1 in
    (b ∷ o.0, o.1, cond-false (b == 10) _ _ (ne_eqb b 10 none.0) ∙ ap (onto_first b) o.2, let h = o.3 in omega arith)

cut_longer : (g others : List ℕ) → NoEnd g → 256 < length g → (line : List ℕ) × (lines : List (List ℕ)) × (cut (g ++ others) ≡ line ∷ lines) × (256 < length line)
cut_longer [] others none long = absurd (omega arith)
cut_longer (b ∷ g) others none long = let o = cut_long b g others none in (o.0, o.1, o.2, omega (arith, o.3))

-- what is gathered, and a part with which it is longer than a line may be
over : (g part others : List ℕ) (ends : Bool) → NoEnd g → IsPart ends part → 256 < length g + length part → (line : List ℕ) × (lines : List (List ℕ)) × (cut (g ++ (part ++ others)) ≡ line ∷ lines) × (256 < length line)
over g part others true none is long = (g ++ part, cut others, ended_line g part others none is, omega (arith, length-append g part))
over g part others false none plain long =
    let o = cut_longer (g ++ part) others (no_end_both g part none plain) (omega (arith, length-append g part)) in
    (o.0, o.1, ap cut (sym (append_assoc g part others)) ∙ o.2, o.3)

no_end_at : (g : List ℕ) → NoEnd g → (k : ℕ) → k < length g → get_or g k 0 ≢ 10
no_end_at [] none k below = absurd (omega arith)
no_end_at (b ∷ g) none zero below = none.0
no_end_at (b ∷ g) none (suc k) below = no_end_at g none.1 k (omega arith)

unended : (g text : List ℕ) → NoEnd g → g ≡ ended text → ⊥
unended [] [] none e = cc
unended [] (c ∷ text) none e = cc
unended (b ∷ g) [] none e = none.0 cc
unended (b ∷ g) (c ∷ text) none e =
    let same : g ≡ text ++ 10 ∷ [] = cc in
    unended g text none.1 same

mute_head : (due : Head) (n : ℕ) (line : List ℕ) → IsMute line → OnHead due n line (bad n)
mute_head FormatDue n line mute = ap (λ (o : Option Head). headed o n) (sym (mute.head FormatDue))
mute_head (ClaimDue f) n line mute = ap (λ (o : Option Head). headed o n) (sym (mute.head (ClaimDue f)))
mute_head (DemandDue claim) n line mute = ap (λ (o : Option Head). headed o n) (sym (mute.head (DemandDue claim)))
mute_head (ClockOrFenDue claim odds) n line mute = ap (λ (o : Option Head). headed o n) (sym (mute.head (ClockOrFenDue claim odds)))
mute_head (FenDue claim odds clock) n line mute = ap (λ (o : Option Head). headed o n) (sym (mute.head (FenDue claim odds clock)))
mute_head (RootDue claim q) n line mute = subst (λ (o : Option BodyLine). Rooted o claim q n (bad n)) (sym mute.root) refl

mute_kid : (units : ℕ) (due : List ℕ) (line : List ℕ) → IsMute line → kid_step units due line ≡ None
mute_kid units [] line mute = refl
mute_kid units (zero ∷ due) line mute = mute_kid units due line mute
mute_kid units (suc c ∷ due) line mute = ap (option_and_then (λ (kid : Unmove × BodyLine). put_due units kid.1 (c ∷ due))) (mute.kid (suc (length due)))

mute_nodes : (o : Option Due) (claim : Claim) (q : Asked) (walk : Walking) (n : ℕ) (line : List ℕ) → o ≡ None → Stepped o claim q walk n line (bad n)
mute_nodes o claim q walk n line none = subst (λ (p : Option Due). Stepped p claim q walk n line (bad n)) (sym none) refl

-- a line that says nothing is bad text
mute_stage : (s : Stage) (n : ℕ) (line : List ℕ) → IsLow s → IsMute line → NextStage s n line (halted_at s n)
mute_stage (in_head due) n line low mute = mute_head due n line mute
mute_stage (nodes claim q walk (nodes_due units due)) n line low mute = mute_nodes (kid_step units due line) claim q walk n line (mute_kid units due line mute)
mute_stage (nodes claim q walk (sketch_due r due)) n line low mute =
    mute_nodes (step (sketch_due r due) line) claim q walk n line (ap (option_map (λ (p : Item × Reading). closed p.1 due)) (mute.sketch r low))
mute_stage (bad k) n line low mute = refl

bad_rest : (lines : Lines) (k n : ℕ) (a : Answer) → a ≡ bad_text k → Rest (bad k) n lines a
bad_rest [] k n a e = e
bad_rest (line ∷ lines) k n a e = (bad k, refl, bad_rest lines k (n + 1) a e)

-- where the text went bad, whatever follows changes nothing
bad_moved : (lines others : Lines) (k m n : ℕ) (a : Answer) → Rest (bad k) m lines a → Rest (bad k) n others a
bad_moved lines others k m n a rest = bad_rest others k n a (rest_bad lines k m a rest)

halted_moved : (s : Stage) (k m n : ℕ) (lines others : Lines) (a : Answer) → Rest (halted_at s k) m lines a → Rest (halted_at s k) n others a
halted_moved (in_head due) k m n lines others a rest = bad_moved lines others k m n a rest
halted_moved (nodes claim q walk due) k m n lines others a rest = bad_moved lines others k m n a rest
halted_moved (bad j) k m n lines others a rest = bad_moved lines others j m n a rest

-- the gathered line is too long
pub rest_long : ((line : List ℕ) → 256 < length line → IsMute line) → (s t : Stage) (n : ℕ) (g part after others : List ℕ) (ends : Bool) (a : Answer) → IsLow s → NoEnd g → IsPart ends part → 256 < length g + length part → t ≡ halted_at s n → Rest t n (cut (after ++ others)) a → Rest s n (cut (g ++ (part ++ others))) a
rest_long mutes s t n g part after others ends a low none is long stop rest =
    let o = over g part others ends none is long in
    let halted = subst (λ (u : Stage). Rest u n (cut (after ++ others)) a) stop rest in
    subst (λ (lines : Lines). Rest s n lines a) (sym o.2)
    (halted_at s n, mute_stage s n o.0 low (mutes o.0 o.3), halted_moved s n n (n + 1) (cut (after ++ others)) o.1 a halted)

-- the bytes end in a line
pub rest_unended : ((line : List ℕ) → ((text : List ℕ) → line ≢ ended text) → IsMute line) → (s : Stage) (n : ℕ) (g : List ℕ) (a : Answer) → IsLow s → NoEnd g → (g ≡ [] → ⊥) → a ≡ answer_at (halted_at s n) n → Rest s n (cut g) a
rest_unended mutes s n g a low none some e =
    subst (λ (lines : Lines). Rest s n lines a) (sym (cut-whole g some (no_end_at g none)))
    (halted_at s n, mute_stage s n g low (mutes g (λ text. unended g text none)), halted_moved s n n (n + 1) [] [] a e)

-- bytes that were fed, for any way to say what is still answered
pub fed_more : (bytes piece : List ℕ) (Before After : List ℕ → Answer → Type 0) → ((others : List ℕ) (a : Answer) → After others a → Before (piece ++ others) a) → ((others : List ℕ) (a : Answer) → Before others a → Answers (cut (bytes ++ others)) a) → (others : List ℕ) (a : Answer) → After others a → Answers (cut ((bytes ++ piece) ++ others)) a
fed_more bytes piece Before After same stands others a rest =
    subst (λ (l : List ℕ). Answers (cut l) a) (sym (append_assoc bytes piece others)) (stands (piece ++ others) a (same others a rest))
