-- What is answered to the bytes of which the first 512 are known.
use Rattle.std.proofs.Common.{◌≡◌, ℕ, ◌<◌, List, [], ◌++◌, length, take, drop, inl, inr, sym, ap, ◌∙◌, subst, arith, append-nil, take-append-drop}
use Rattle.std.specs.Prelude.{Option, Some, None, IfErr, IfOk, IfSome, Result, Ok, Err}
use Rattle.std.proofs.lemmas.Bool.{cases_lt}
use Rattle.std.proofs.lemmas.List.{drop_all, length-take-le}
use Rattle.query_base.specs.Asked.{Asked}
use Rattle.cert_text.specs.Lines.{cut}
use Rattle.cert_text.specs.Texts.{IsBadAt}
use Rattle.length_bound.specs.LengthText.{AreLengthLines}
use Rattle.length_bound.specs.LengthAnswers.{AnswersBytes, AnswersLength, IsShown, LengthAnswer, length_answer}
use Rattle.length_bound.specs.LengthFronts.{ReadsFront}
use Rattle.length_bound.specs.declared.checking.LengthRefused.{LengthRefused}
use Rattle.length_bound.specs.declared.checking.LengthRefused.TheVariants as refused
use Rattle.length_bound.specs.declared.texts.LengthText.{LengthText}
use Rattle.length_bound.proofs.Fronts.{bad_front, bytes_in-cut}
use Rattle.length_bound.proofs.LineSizes.{text_short}
use Rattle.retro_ports.specs.declared.piecewise.TheConstants.{MOST_BYTES}

-- whatever follows these bytes, if they are 512, is answered so
abbrev pub IsAnswered : List ℕ → LengthAnswer → Type 0
IsAnswered front a = (others : List ℕ) → (length front < 512 → others ≡ []) → AnswersLength (cut (front ++ others)) a

pub few_bytes : (front : List ℕ) (text : LengthText) → AreLengthLines (cut front) text → length front < 512
few_bytes front text are = omega (arith, text_short (cut front) text are, bytes_in-cut front)

alone : (front others : List ℕ) → others ≡ [] → front ++ others ≡ front
alone front others none = ap (λ (l : List ℕ). front ++ l) none ∙ append-nil front

pub text_answered : (r : Result (ℕ × Asked) LengthRefused) (front : List ℕ) (text : LengthText) → AreLengthLines (cut front) text → IfOk r (λ p. IsShown text × (p.0 ≡ text.at_least) × (p.1 ≡ text.query)) → IfErr r (λ e. (e ≡ refused.Unsupported) × (IsShown text → ⊥)) → IfSome (length_answer r) (IsAnswered front)
text_answered (Ok (n, q)) front text are (shown, number, query) other = λ others rest.
    let same = alone front others (rest (few_bytes front text are)) in
    (text, subst (λ (l : List ℕ). AreLengthLines (cut l) text) (sym same) are, shown, sym number, sym query)
text_answered (Err refused.Unsupported) front text are shown (is, not_shown) = λ others rest.
    let same = alone front others (rest (few_bytes front text are)) in
    (text, subst (λ (l : List ℕ). AreLengthLines (cut l) text) (sym same) are, not_shown)
text_answered (Err (refused.BadText n)) front text are shown (is, not_shown) = absurd cc
text_answered (Err refused.TooLong) front text are shown (is, not_shown) = absurd cc
text_answered (Err refused.ReadFault) front text are shown (is, not_shown) = absurd cc

pub bad_answered : (front : List ℕ) (n : ℕ) → IsBadAt AreLengthLines (cut front) n → (others : List ℕ) → (length front < 512 → others ≡ []) → IsBadAt AreLengthLines (cut (front ++ others)) n
bad_answered front n bad others rest = elim (cases_lt (length front) 512) [
  | inl few ↦ subst (λ (l : List ℕ). IsBadAt AreLengthLines (cut l) n) (sym (alone front others (rest few))) bad
  | inr many ↦ bad_front AreLengthLines 512 front others n (omega arith) text_short many bad
]

-- fewer than 512 bytes are all
none_left : (front bytes : List ℕ) → front ≡ take 512 bytes → length front < 512 → drop 512 bytes ≡ []
none_left front bytes is few = elim (cases_lt (length bytes) 512) [
  | inl low ↦ drop_all 512 bytes (omega arith)
  | inr many ↦ absurd (omega (arith, ap length is, length-take-le 512 bytes many))
]

some_answered : (o : Option LengthAnswer) (before now : Option (List ℕ)) (front : List ℕ) → ReadsFront before now front → IfSome o (IsAnswered front) → IfSome o (AnswersBytes MOST_BYTES before now)
some_answered None before now front reads h = tt
some_answered (Some a) before now front reads h =
    let whole : front ++ drop 512 reads.bytes ≡ reads.bytes = ap (λ (l : List ℕ). l ++ drop 512 reads.bytes) reads.kept ∙ take-append-drop 512 reads.bytes in
    record {
      bytes = reads.bytes;
      read = reads.read;
      ended = reads.ended;
      fits = reads.fits;
      answers = subst (λ (l : List ℕ). AnswersLength (cut l) a) whole (h (drop 512 reads.bytes) (λ few. none_left front reads.bytes reads.kept few));
    }

pub all_answered : (r : Result (ℕ × Asked) LengthRefused) (before now : Option (List ℕ)) (front : List ℕ) → ReadsFront before now front → IfSome (length_answer r) (IsAnswered front) → IfSome (length_answer r) (AnswersBytes MOST_BYTES before now)
all_answered r before now front reads h = some_answered (length_answer r) before now front reads h
