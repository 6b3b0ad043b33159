-- Steps and cases that can't have been, told one after another.
use Rattle.std.proofs.Common.{◌≡◌, ℕ, ◌+◌, ◌<◌, ◌≤◌, Bool, List, [], ◌++◌, append_assoc, append-nil, drop, get_or, length, take, ap, sym, ◌∙◌}
use Rattle.std.proofs.lemmas.List.{at_drop_more, drop_all, take_more}
use Rattle.sketch_words.specs.Denials.{denied_each, denials_words, first_denied, one_denied}
use Rattle.sketch_words.specs.Phrases.{Spot}
use Rattle.sketch_words.specs.declared.spots.Child.{Child}
use Rattle.sketch_words.specs.declared.spots.Flaw.{Flaw}

-- WITH ONE FLAW

each-more : (all_ : List Child) (w : Flaw) (i : ℕ) (x : Child) → i < length all_ → x ≡ get_or all_ i x → denied_each all_ w (take i all_) (drop i all_) ≡ one_denied all_ w (take i all_) x ++ denied_each all_ w (take (i + 1) all_) (drop (i + 1) all_)
each-more all_ w i x low is =
    at_drop_more (λ (l : List Child). denied_each all_ w (take i all_) l) all_ i x low
    ∙ ap (λ (l : List Child). one_denied all_ w (take i all_) (get_or all_ i x) ++ denied_each all_ w l (drop (i + 1) all_)) (sym (take_more all_ i x low))
    ∙ ap (λ (y : Child). one_denied all_ w (take i all_) y ++ denied_each all_ w (take (i + 1) all_) (drop (i + 1) all_)) (sym is)

pub each-on : (all_ : List Child) (w : Flaw) (i : ℕ) (x : Child) (o p r : List ℕ) → i < length all_ → x ≡ get_or all_ i x → o ++ denied_each all_ w [] all_ ≡ p ++ denied_each all_ w (take i all_) (drop i all_) → r ≡ p ++ one_denied all_ w (take i all_) x → o ++ denied_each all_ w [] all_ ≡ r ++ denied_each all_ w (take (i + 1) all_) (drop (i + 1) all_)
each-on all_ w i x o p r low is before text =
    let later : List ℕ = denied_each all_ w (take (i + 1) all_) (drop (i + 1) all_) in
    before
    ∙ ap (λ (l : List ℕ). p ++ l) (each-more all_ w i x low is)
    ∙ sym (append_assoc p (one_denied all_ w (take i all_) x) later)
    ∙ ap (λ (l : List ℕ). l ++ later) (sym text)

pub each-end : (all_ : List Child) (w : Flaw) (i : ℕ) (o p : List ℕ) → length all_ ≤ i → o ++ denied_each all_ w [] all_ ≡ p ++ denied_each all_ w (take i all_) (drop i all_) → p ≡ o ++ denied_each all_ w [] all_
each-end all_ w i o p past before =
    sym (before ∙ ap (λ (l : List Child). p ++ denied_each all_ w (take i all_) l) (drop_all i all_ past) ∙ append-nil p)

-- WITH ANY

all-more : (odds : List Bool) (at : Spot) (all_ : List Child) (i : ℕ) (x : Child) → i < length all_ → x ≡ get_or all_ i x → denials_words odds at all_ (take i all_) (drop i all_) ≡ first_denied odds at all_ (take i all_) x.flaw ++ denials_words odds at all_ (take (i + 1) all_) (drop (i + 1) all_)
all-more odds at all_ i x low is =
    at_drop_more (λ (l : List Child). denials_words odds at all_ (take i all_) l) all_ i x low
    ∙ ap (λ (l : List Child). first_denied odds at all_ (take i all_) (get_or all_ i x).flaw ++ denials_words odds at all_ l (drop (i + 1) all_)) (sym (take_more all_ i x low))
    ∙ ap (λ (y : Child). first_denied odds at all_ (take i all_) y.flaw ++ denials_words odds at all_ (take (i + 1) all_) (drop (i + 1) all_)) (sym is)

pub all-on : (odds : List Bool) (at : Spot) (all_ : List Child) (i : ℕ) (x : Child) (o p r : List ℕ) → i < length all_ → x ≡ get_or all_ i x → o ++ denials_words odds at all_ [] all_ ≡ p ++ denials_words odds at all_ (take i all_) (drop i all_) → r ≡ p ++ first_denied odds at all_ (take i all_) x.flaw → o ++ denials_words odds at all_ [] all_ ≡ r ++ denials_words odds at all_ (take (i + 1) all_) (drop (i + 1) all_)
all-on odds at all_ i x o p r low is before text =
    let later : List ℕ = denials_words odds at all_ (take (i + 1) all_) (drop (i + 1) all_) in
    before
    ∙ ap (λ (l : List ℕ). p ++ l) (all-more odds at all_ i x low is)
    ∙ sym (append_assoc p (first_denied odds at all_ (take i all_) x.flaw) later)
    ∙ ap (λ (l : List ℕ). l ++ later) (sym text)

pub all-end : (odds : List Bool) (at : Spot) (all_ : List Child) (i : ℕ) (o p : List ℕ) → length all_ ≤ i → o ++ denials_words odds at all_ [] all_ ≡ p ++ denials_words odds at all_ (take i all_) (drop i all_) → p ≡ o ++ denials_words odds at all_ [] all_
all-end odds at all_ i o p past before =
    sym (before ∙ ap (λ (l : List Child). p ++ denials_words odds at all_ (take i all_) l) (drop_all i all_ past) ∙ append-nil p)
