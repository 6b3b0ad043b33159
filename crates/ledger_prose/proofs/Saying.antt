-- What sentences say is so of each game of which their lines are true.
use Rattle.std.proofs.Common.{◌≡◌, ℕ, ◌<◌, inl, inr, Bool, true, false, List, [], ◌∷◌, refl, subst, arith}
use Rattle.std.specs.Prelude.{◌&&◌, ◌==◌, nat_lt, not}
use Rattle.std.specs.Bool.{beq}
use Rattle.std.specs.List.{All, Contains, filter, list_any}
use Rattle.std.proofs.lemmas.Bool.{and_parts, both_ways, eqb-true, leb-true, or_cases}
use Rattle.std.proofs.lemmas.List.Elements.{All-contains, All-filter, All-weaker}
use Rattle.board_base.specs.Board.{is_in, opponent}
use Rattle.board_base.specs.declared.men.Colour.{Colour}
use Rattle.board_base.specs.declared.men.Colour.TheVariants.{White, Black}
use Rattle.board_base.specs.declared.moves.Move.{Move}
use Rattle.general_lemmas.proofs.Ranges.{all_in_range}
use Rattle.general_lemmas.proofs.Lists.{contains-filter, contains-first, contains-later, filter-contains}
use Rattle.query_base.specs.Asked.{Asked}
use Rattle.query_base.specs.Reach.{Reaches}
use Rattle.ledger_lines.specs.Facts.{Says}
use Rattle.ledger_lines.specs.Lines.{LineSays, OfManner, OfTaker, OfWithin}
use Rattle.ledger_lines.specs.declared.facts.Fact.{Fact}
use Rattle.ledger_lines.specs.declared.lines.Line.{Line}
use Rattle.ledger_lines.specs.declared.lines.Line.TheVariants.{Unmoved as UnmovedLine, Lacks, Captures, Pawn, Man, Ahead, Original as OriginalLine, Promoted as PromotedLine, Among, Fell, Became}
use Rattle.ledger_lines.specs.declared.lines.Manner.{Manner}
use Rattle.ledger_lines.specs.declared.lines.Manner.TheVariants.{Anyhow, AsPawn, AsPromoted}
use Rattle.ledger_lines.specs.declared.lines.Taker.{Taker}
use Rattle.ledger_lines.specs.declared.lines.Taker.TheVariants.{Anyone, Pawn as ByPawn, Officer}
use Rattle.ledger_prose.specs.Saying.{NeverLeft, SaidOf, SentenceSays, TookAll}
use Rattle.ledger_prose.specs.Sentences.{alone, are_all_taken, are_untold, captured, captured_sentences, group_lines, group_sentences, has_taken_all, is_alone, is_at_home, is_change, is_lacking, is_of_group, is_officer_fall, is_origin, is_pawn_fall, is_promotion, is_taken, lacks, line_sentences, names_square, needed, number_named, same_manner, same_taker, sentences_of, together, told_taker, took}
use Rattle.ledger_prose.specs.declared.parts.Group.{Group}
use Rattle.ledger_prose.specs.declared.parts.Group.TheVariants.{Captors, Pawns, Officers, AtHome, Promoted, Original, Unmoved}
use Rattle.ledger_prose.specs.declared.parts.Topic.{Topic}
use Rattle.ledger_prose.specs.declared.parts.Topic.TheVariants.{Lacking, Taken, Spare, Changed, Origins}
use Rattle.ledger_prose.proofs.EachSentence.{all-one, all-sentences}
use Rattle.men_account.proofs.SideHomes.{tested-home}

-- a line that passes, if one does
found : (p : Line → Bool) (xs : List Line) → list_any p xs ≡ true → (x : Line) × Contains xs x × (p x ≡ true)
found p [] h = absurd (both_ways false refl h)
found p (x ∷ xs) h = elim (or_cases (p x) (list_any p xs) h) [
  | inl here ↦ (x, contains-first x xs, here)
  | inr later ↦ let rest = found p xs later in (rest.0, contains-later x xs rest.0 rest.1, rest.2)
]

same-manner : (a b : Manner) → same_manner a b ≡ true → b ≡ a
same-manner Anyhow Anyhow h = refl
same-manner AsPawn AsPawn h = refl
same-manner AsPromoted AsPromoted h = refl
same-manner Anyhow AsPawn h = absurd (both_ways false refl h)
same-manner Anyhow AsPromoted h = absurd (both_ways false refl h)
same-manner AsPawn Anyhow h = absurd (both_ways false refl h)
same-manner AsPawn AsPromoted h = absurd (both_ways false refl h)
same-manner AsPromoted Anyhow h = absurd (both_ways false refl h)
same-manner AsPromoted AsPawn h = absurd (both_ways false refl h)

same-taker : (a b : Taker) → same_taker a b ≡ true → b ≡ a
same-taker Anyone Anyone h = refl
same-taker ByPawn ByPawn h = refl
same-taker Officer Officer h = refl
same-taker Anyone ByPawn h = absurd (both_ways false refl h)
same-taker Anyone Officer h = absurd (both_ways false refl h)
same-taker ByPawn Anyone h = absurd (both_ways false refl h)
same-taker ByPawn Officer h = absurd (both_ways false refl h)
same-taker Officer Anyone h = absurd (both_ways false refl h)
same-taker Officer ByPawn h = absurd (both_ways false refl h)

-- what is told of who took a man is so if it is so in the line
told-so : (P : Fact → Type 0) (h : ℕ) (all : Bool) (taker : Taker) → OfTaker P h taker → OfTaker P h (told_taker all taker)
told-so P h all Anyone so = so
told-so P h true ByPawn so = tt
told-so P h false ByPawn so = so
told-so P h all Officer so = so

of-taker : (P : Fact → Type 0) (h : ℕ) (all : Bool) (told taker : Taker) → same_taker told (told_taker all taker) ≡ true → OfTaker P h taker → OfTaker P h told
of-taker P h all told taker same so = subst (OfTaker P h) (same-taker told (told_taker all taker) same) (told-so P h all taker so)

both-so : (b : Bool) → beq true b ≡ true → b ≡ true
both-so true h = refl
both-so false h = absurd (both_ways false refl h)

-- a set that has no other square
in-alone : (h : ℕ) (set : List Bool) (s : ℕ) → is_alone h set ≡ true → s < 64 → is_in set s ≡ true → s ≡ h
unfolding is_alone
in-alone h set s none low there =
    eqb-true s h (tested-home (is_in set s) (s == h) (all_in_range (λ t. not (is_in set t && not (t == h))) 0 64 s none (omega arith) (omega arith)) there)

module _ (q : Asked) (lines : List Line) (g : List Move) where
  abbrev Is : Line → Type 0
  Is x = LineSays x q.odds g

  pawn-falls : (c : Colour) (told : Taker) (manner : Manner) (s : ℕ) (x : Line) → is_pawn_fall c told manner q lines x ≡ true → names_square q s x ≡ true → Is x → SaidOf (Pawns c told manner) q.odds g s
  pawn-falls c told manner s (Fell h taker how within) of names so =
      let parts = and_parts _ _ of in
      let rest = and_parts _ _ parts.0 in
      let there : h ≡ s = eqb-true h s names in
      subst (λ (k : ℕ). SaidOf (Pawns c told manner) q.odds g k) there (rest.0, so.0, of-taker (λ f. Says f q.odds g) h (has_taken_all (opponent c) lines) told taker parts.1 so.1, subst (OfManner (λ f. Says f q.odds g) h) (same-manner manner how rest.1) so.2)
  pawn-falls c told manner s (UnmovedLine set) of names so = absurd (both_ways false refl of)
  pawn-falls c told manner s (Lacks side x) of names so = absurd (both_ways false refl of)
  pawn-falls c told manner s (Captures side x) of names so = absurd (both_ways false refl of)
  pawn-falls c told manner s (Pawn t homes n exact) of names so = absurd (both_ways false refl of)
  pawn-falls c told manner s (Man t h) of names so = absurd (both_ways false refl of)
  pawn-falls c told manner s (Ahead set) of names so = absurd (both_ways false refl of)
  pawn-falls c told manner s (OriginalLine set) of names so = absurd (both_ways false refl of)
  pawn-falls c told manner s (PromotedLine t homes) of names so = absurd (both_ways false refl of)
  pawn-falls c told manner s (Among n set) of names so = absurd (both_ways false refl of)
  pawn-falls c told manner s (Became h) of names so = absurd (both_ways false refl of)

  -- he was taken at home if that is told
  never-left : (h : ℕ) (home : Bool) (within : List Bool) → beq home (is_at_home h within) ≡ true → OfWithin (λ f. Says f q.odds g) h within → home ≡ true → NeverLeft q.odds g h
  never-left h home within same so asked =
      let told = and_parts (is_in within h) (is_alone h within) (both-so (is_at_home h within) (subst (λ (b : Bool). beq b (is_at_home h within) ≡ true) asked same)) in
      λ before begins s low label. in-alone h within s told.1 low (so told.0 before begins s label)

  officer-falls : (c : Colour) (told : Taker) (home : Bool) (s : ℕ) (x : Line) → is_officer_fall c told home q lines x ≡ true → names_square q s x ≡ true → Is x → SaidOf (Officers c told) q.odds g s × (home ≡ true → NeverLeft q.odds g s)
  officer-falls c told home s (Fell h taker how within) of names so =
      let whole = and_parts _ _ of in
      let parts = and_parts _ _ whole.0 in
      let rest = and_parts _ _ parts.0 in
      let there : h ≡ s = eqb-true h s names in
      let said : SaidOf (Officers c told) q.odds g h = (rest.0, so.0, of-taker (λ f. Says f q.odds g) h (has_taken_all (opponent c) lines) told taker parts.1 so.1) in
      subst (λ (k : ℕ). SaidOf (Officers c told) q.odds g k × (home ≡ true → NeverLeft q.odds g k)) there (said, never-left h home within whole.1 so.3)
  officer-falls c told home s (UnmovedLine set) of names so = absurd (both_ways false refl of)
  officer-falls c told home s (Lacks side x) of names so = absurd (both_ways false refl of)
  officer-falls c told home s (Captures side x) of names so = absurd (both_ways false refl of)
  officer-falls c told home s (Pawn t homes n exact) of names so = absurd (both_ways false refl of)
  officer-falls c told home s (Man t h) of names so = absurd (both_ways false refl of)
  officer-falls c told home s (Ahead set) of names so = absurd (both_ways false refl of)
  officer-falls c told home s (OriginalLine set) of names so = absurd (both_ways false refl of)
  officer-falls c told home s (PromotedLine t homes) of names so = absurd (both_ways false refl of)
  officer-falls c told home s (Among n set) of names so = absurd (both_ways false refl of)
  officer-falls c told home s (Became h) of names so = absurd (both_ways false refl of)

  promotions : (c : Colour) (s : ℕ) (x : Line) → is_promotion c q lines x ≡ true → names_square q s x ≡ true → Is x → SaidOf (Promoted c) q.odds g s
  promotions c s (Became h) of names so =
      let parts = and_parts _ _ of in
      let there : h ≡ s = eqb-true h s names in
      subst (λ (k : ℕ). SaidOf (Promoted c) q.odds g k) there (parts.0, so)
  promotions c s (Fell h taker how within) of names so = absurd (both_ways false refl of)
  promotions c s (UnmovedLine set) of names so = absurd (both_ways false refl of)
  promotions c s (Lacks side x) of names so = absurd (both_ways false refl of)
  promotions c s (Captures side x) of names so = absurd (both_ways false refl of)
  promotions c s (Pawn t homes n exact) of names so = absurd (both_ways false refl of)
  promotions c s (Man t h) of names so = absurd (both_ways false refl of)
  promotions c s (Ahead set) of names so = absurd (both_ways false refl of)
  promotions c s (OriginalLine set) of names so = absurd (both_ways false refl of)
  promotions c s (PromotedLine t homes) of names so = absurd (both_ways false refl of)
  promotions c s (Among n set) of names so = absurd (both_ways false refl of)

  originals : (s : ℕ) → s < 64 → (x : Line) → is_of_group Original q lines x ≡ true → names_square q s x ≡ true → Is x → SaidOf Original q.odds g s
  originals s low (OriginalLine set) of names so = so s low names
  originals s low (Became h) of names so = absurd (both_ways false refl of)
  originals s low (Fell h taker how within) of names so = absurd (both_ways false refl of)
  originals s low (UnmovedLine set) of names so = absurd (both_ways false refl of)
  originals s low (Lacks side x) of names so = absurd (both_ways false refl of)
  originals s low (Captures side x) of names so = absurd (both_ways false refl of)
  originals s low (Pawn t homes n exact) of names so = absurd (both_ways false refl of)
  originals s low (Man t h) of names so = absurd (both_ways false refl of)
  originals s low (Ahead set) of names so = absurd (both_ways false refl of)
  originals s low (PromotedLine t homes) of names so = absurd (both_ways false refl of)
  originals s low (Among n set) of names so = absurd (both_ways false refl of)

  stays : (s : ℕ) → (x : Line) → is_of_group Unmoved q lines x ≡ true → names_square q s x ≡ true → Is x → SaidOf Unmoved q.odds g s
  stays s (UnmovedLine set) of names so = λ before begins. so before begins s (and_parts _ _ (and_parts _ _ names).0).0
  stays s (OriginalLine set) of names so = absurd (both_ways false refl of)
  stays s (Became h) of names so = absurd (both_ways false refl of)
  stays s (Fell h taker how within) of names so = absurd (both_ways false refl of)
  stays s (Lacks side x) of names so = absurd (both_ways false refl of)
  stays s (Captures side x) of names so = absurd (both_ways false refl of)
  stays s (Pawn t homes n exact) of names so = absurd (both_ways false refl of)
  stays s (Man t h) of names so = absurd (both_ways false refl of)
  stays s (Ahead set) of names so = absurd (both_ways false refl of)
  stays s (PromotedLine t homes) of names so = absurd (both_ways false refl of)
  stays s (Among n set) of names so = absurd (both_ways false refl of)

  -- so is what the sentence of a group says of a square that a line of the group names
  said-of : (group : Group) (s : ℕ) → s < 64 → (x : Line) → is_of_group group q lines x ≡ true → names_square q s x ≡ true → Is x → SaidOf group q.odds g s
  said-of (Captors c) s low x of names so = tt
  said-of (Pawns c told manner) s low x of names so = pawn-falls c told manner s x of names so
  said-of (Officers c told) s low x of names so = (officer-falls c told false s x of names so).0
  said-of (AtHome c told) s low x of names so =
      let it = officer-falls c told true s x of names so in
      (it.0.0, it.0.1, it.0.2, it.1 refl)
  said-of (Promoted c) s low x of names so = promotions c s x of names so
  said-of Original s low x of names so = originals s low x of names so
  said-of Unmoved s low x of names so = stays s x of names so

  -- so it is that a side's pawns took all
  took-all : (c : Colour) (x : Line) → are_all_taken c x ≡ true → Is x → TookAll c x q.odds g
  took-all White (Captures White x) of so = let enough = leb-true x.lacking x.all.least (and_parts _ _ of).1 in let made = so.0.0 in omega (arith, enough, made)
  took-all Black (Captures Black x) of so = let enough = leb-true x.lacking x.all.least (and_parts _ _ of).1 in let made = so.0.0 in omega (arith, enough, made)
  took-all White (Captures Black x) of so = absurd (both_ways false refl of)
  took-all Black (Captures White x) of so = absurd (both_ways false refl of)
  took-all c (UnmovedLine set) of so = absurd (both_ways false refl of)
  took-all c (OriginalLine set) of so = absurd (both_ways false refl of)
  took-all c (Became h) of so = absurd (both_ways false refl of)
  took-all c (Fell h taker how within) of so = absurd (both_ways false refl of)
  took-all c (Lacks side x) of so = absurd (both_ways false refl of)
  took-all c (Pawn t homes n exact) of so = absurd (both_ways false refl of)
  took-all c (Man t h) of so = absurd (both_ways false refl of)
  took-all c (Ahead set) of so = absurd (both_ways false refl of)
  took-all c (PromotedLine t homes) of so = absurd (both_ways false refl of)
  took-all c (Among n set) of so = absurd (both_ways false refl of)

  module _ (so : All Is lines) where
    is-so : (x : Line) → Contains lines x → Is x
    is-so x here = All-contains Is lines x so here

    line-says : (topic : Topic) (x : Line) → Contains lines x → All (SentenceSays q g) (line_sentences topic q lines x)
    line-says (Lacking c) x here = all-one (SentenceSays q g) (is_lacking c x) (lacks x) (λ due. is-so x here)
    line-says (Taken c) x here =
        all-one (SentenceSays q g) (is_taken c x) (took x (group_lines (Captors c) q lines)) (λ due. (is-so x here, All-filter (is_of_group (Captors c) q lines) Is lines so))
    line-says Spare x here =
        all-one (SentenceSays q g) (are_all_taken White x && has_taken_all Black lines) (needed x (filter (are_all_taken Black) lines)) (λ due.
        let parts = and_parts _ _ due in
        let other = found (are_all_taken Black) lines parts.1 in
        (took-all White x parts.0 (is-so x here), (other.0, contains-filter (are_all_taken Black) lines other.0 other.1 other.2, took-all Black other.0 other.2 (is-so other.0 other.1))))
    line-says Changed x here = all-one (SentenceSays q g) (is_change x) (alone x) (λ due. is-so x here)
    line-says Origins x here = all-one (SentenceSays q g) (is_origin x) (alone x) (λ due. is-so x here)

    pawns-say : (c : Colour) → All (SentenceSays q g) (captured_sentences c q lines)
    pawns-say c =
        let ways : List Line = group_lines (Captors c) q lines in
        all-one (SentenceSays q g) (are_untold c lines ways) (captured c ways) (λ due. All-filter (is_of_group (Captors c) q lines) Is lines so)

    group-says : (group : Group) → All (SentenceSays q g) (group_sentences group q lines)
    group-says group =
        all-one (SentenceSays q g) (nat_lt 0 (number_named q (group_lines group q lines))) (together group (group_lines group q lines)) (λ due s low named.
        let one = found (names_square q s) (group_lines group q lines) named in
        let kept = filter-contains (is_of_group group q lines) lines one.0 one.1 in
        said-of group s low one.0 kept.1 one.2 (is-so one.0 kept.0))

pub all-said : (q : Asked) (lines : List Line) (g : List Move) → All (λ x. LineSays x q.odds g) lines → All (SentenceSays q g) (sentences_of q lines)
all-said q lines g so = all-sentences (SentenceSays q g) q lines (line-says q lines g so) (pawns-say q lines g so) (group-says q lines g so)

pub all-reached : (q : Asked) (lines : List Line) → All (λ x. (g : List Move) → Reaches g q → LineSays x q.odds g) lines → (g : List Move) → Reaches g q → All (SentenceSays q g) (sentences_of q lines)
all-reached q lines so g reaches =
    all-said q lines g (All-weaker (λ x. (h : List Move) → Reaches h q → LineSays x q.odds h) (λ x. LineSays x q.odds g) (λ x each. each g reaches) lines so)
