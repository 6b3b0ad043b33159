-- Each line that is told is known, and so it is true of every game.
use Rattle.std.proofs.Common.{◌≡◌, ℕ, ◌<◌, ◌≤◌, inl, inr, Bool, true, false, cond, ◌&&◌, ◌||◌, not, List, [], zero, suc, refl, ap, sym, subst, ◌∙◌, arith}
use Rattle.std.specs.Prelude.{IsTrue, Option, None, Some, map, nat_le, nat_lt, slice_index, slice_index_or, length}
use Rattle.std.specs.List.{All, range_with_len}
use Rattle.std.proofs.lemmas.Bool.{and_from, and_parts, both_ways, cases_Bool, le-leb, ltb-true, or_left, or_right}
use Rattle.std.proofs.lemmas.List.Elements.{All-append, All-cons, All-nil}
use Rattle.std.proofs.lemmas.List.FromFn.{get_or-map-range_with_len}
use Rattle.std.proofs.lemmas.Option.{cond_some}
use Rattle.board_base.specs.Board.{array_of, at, is_a, is_in, is_like, is_the, opponent}
use Rattle.board_base.specs.Squares.{squares_of}
use Rattle.board_base.specs.declared.men.Colour.{Colour}
use Rattle.board_base.specs.declared.men.Colour.TheVariants.{White, Black}
use Rattle.board_base.specs.declared.men.Man.{Man}
use Rattle.board_base.specs.declared.men.Kind.{Kind}
use Rattle.board_base.specs.declared.men.Kind.TheVariants.{Pawn as APawn, Knight, Bishop, Rook, Queen}
use Rattle.men_account.specs.Account.{is_dark, is_light}
use Rattle.query_base.specs.Asked.{Asked}
use Rattle.cage_rules.specs.Frozen.{IsFrozen}
use Rattle.cage_rules.specs.Regions.{region}
use Rattle.cage_rules.proofs.Filling.{is_in-that, none-in-zero}
use Rattle.ledger_search.specs.Ledgers.{IsLedgerOf}
use Rattle.ledger_search.specs.Questions.{is_man}
use Rattle.ledger_search.specs.declared.ledgers.Ledger.{Ledger}
use Rattle.ledger_facts.specs.declared.suppositions.Squares.{Squares}
use Rattle.ledger_facts.specs.declared.suppositions.Squares.TheVariants.{All as AllSquares, Dark, Class}
use Rattle.ledger_lines.specs.Known.{IsKnown, counts_of as captures_of, has_officer, is_fallen, is_few_on, is_left, is_promoted, is_struck, is_unpromoted, is_unstruck, lacking, least_of, number_in, piece_homes}
use Rattle.ledger_lines.specs.Losses.{losses_of}
use Rattle.ledger_lines.specs.declared.facts.Fact.TheVariants.{Began, AtLeast, AtMost}
use Rattle.ledger_lines.specs.Lines.{IsLineKnown, IsLineOnBoard, OfDark, OfManner, OfTaker, OfWithin}
use Rattle.ledger_lines.specs.declared.lines.Line.{Line}
use Rattle.ledger_lines.specs.declared.lines.Line.TheVariants.{Captures as CapturesLine}
use Rattle.ledger_lines.specs.declared.lines.Taker.TheVariants as taker
use Rattle.ledger_lines.specs.declared.lines.Manner.TheVariants as manner
use Rattle.ledger_lines.proofs.LinesHolding.{known-line-reached}
use Rattle.ledger_told.specs.Due.{IsAmongLine, IsChosen, IsSquareLine, IsWhole, TellsPawn, homes_left, is_class_told, is_moving, is_of_breed, is_somebody, is_pawn_news, is_news, most_dark, most_made, of_group, takings, tells_within, told_on}
use Rattle.ledger_told.specs.Told.{IsLineTrue, TellsAll, TellsAmong, TellsFirst, TellsLines, TellsWhole, Then, one_line}
use Rattle.ledger_told.specs.declared.topics.Breed.{Breed}
use Rattle.ledger_told.specs.declared.topics.Breed.TheVariants.{Queens, Rooks, DarkBishops, LightBishops, Knights}
use Rattle.ledger_told.specs.declared.topics.Group.{Group}
use Rattle.ledger_told.specs.declared.topics.Group.TheVariants.{Ahead, Original}
use Rattle.ledger_told.specs.declared.topics.Whole.{Whole}
use Rattle.ledger_told.specs.declared.topics.Whole.TheVariants.{Unmoved, Lacks, Captures, Those, Among}
use Rattle.ledger_told.specs.declared.topics.Topic.{Topic}
use Rattle.ledger_told.specs.declared.topics.Topic.TheVariants.{Pawns, Men, Officers, Falls, Promotions}

not-so : (b : Bool) → not b ≡ true → b ≡ false
not-so true h = absurd (both_ways false refl h)
not-so false h = refl

pub a-pawn : (place : Option Man) → is_a APawn place ≡ true → is_man place ≡ true
a-pawn None h = absurd (both_ways false refl h)
a-pawn (Some m) h = refl

module _ (q : Asked) (l : Ledger) where
  -- the line is on the board and known
  abbrev Is : Line → Type 0
  Is x = IsLineOnBoard x × IsLineKnown x q l

  within : (a b n : ℕ) → (nat_lt a b && nat_lt a 16) ≡ true → n ≡ a → (nat_le a n && nat_lt a 16) ≡ true
  within a b n low e = and_from _ _ (le-leb a n (omega (arith, e))) (and_parts (nat_lt a b) (nat_lt a 16) low).1

  -- a number that is known, or else one that is
  lesser-known : (c : Colour) (squares : Squares) (low : Bool) (a n : ℕ) → (low ≡ true → is_few_on (captures_of l c) squares a ≡ true) → IsKnown (AtMost c squares n) q l → IsKnown (AtMost c squares (cond low a n)) q l
  lesser-known c squares true a n few known = or_left _ _ (or_left _ _ (few refl))
  lesser-known c squares false a n few known = known

  as-many-lack : (c : Colour) (squares : Squares) → IsKnown (AtMost c squares (lacking q (opponent c))) q l
  as-many-lack c squares = or_right _ _ (le-leb (lacking q (opponent c)) (lacking q (opponent c)) (omega arith))

  -- at most so many on any squares as in all
  most-known : (c : Colour) (squares : Squares) (low : Bool) → (nat_lt (captures_of l c).all.most (lacking q (opponent c)) && nat_lt (captures_of l c).all.most 16) ≡ low → IsKnown (AtMost c squares (cond low (captures_of l c).all.most (lacking q (opponent c)))) q l
  most-known c squares true is = or_left _ _ (or_right _ _ (within (captures_of l c).all.most (lacking q (opponent c)) (captures_of l c).all.most is refl))
  most-known c squares false is = as-many-lack c squares

  made-known : (c : Colour) (squares : Squares) → IsKnown (AtMost c squares (most_made q l c)) q l
  made-known c squares = most-known c squares (nat_lt (captures_of l c).all.most (lacking q (opponent c)) && nat_lt (captures_of l c).all.most 16) refl

  least-known : (c : Colour) (squares : Squares) → IsKnown (AtLeast c squares (least_of (captures_of l c) squares)) q l
  least-known c squares = le-leb (least_of (captures_of l c) squares) (least_of (captures_of l c) squares) (omega arith)

  dark-known : (c : Colour) (told : Bool) → OfDark (λ f. IsKnown f q l) c (cond told (Some (record { least = (captures_of l c).dark.least; most = most_dark q l c })) None)
  dark-known c false = tt
  dark-known c true = (
    least-known c Dark,
    lesser-known c Dark (nat_lt (captures_of l c).dark.most (most_made q l c) && nat_lt (captures_of l c).dark.most 16) (captures_of l c).dark.most (most_made q l c) (λ low. within (captures_of l c).dark.most (most_made q l c) (captures_of l c).dark.most low refl) (made-known c Dark),
  )

  -- as many on a class as are known, or none
  fewer-known : (c : Colour) (k : ℕ) (told : Bool) → IsKnown (AtLeast c (Class k) (cond told 0 (slice_index (captures_of l c).least_on k))) q l
  fewer-known c k true = le-leb 0 (slice_index (captures_of l c).least_on k) (omega arith)
  fewer-known c k false = least-known c (Class k)

  told-known : (c : Colour) (k : ℕ) → k < 16 → IsKnown (AtLeast c (Class k) (slice_index (map (told_on q l c) (range_with_len 0 16)) k)) q l
  told-known c k low =
      let e : slice_index (map (told_on q l c) (range_with_len 0 16)) k ≡ told_on q l c k = get_or-map-range_with_len (told_on q l c) 0 16 k k 0 low (omega arith) in
      subst (λ (n : ℕ). IsKnown (AtLeast c (Class k) n) q l) (sym e) (fewer-known c k (is_class_told q l c k))

  captures-known : (c : Colour) → Is (CapturesLine c (takings q l c))
  captures-known c = (tt, ((least-known c AllSquares, made-known c AllSquares), dark-known c (nat_lt 0 (captures_of l c).all.least && (nat_lt 0 (captures_of l c).dark.least || nat_lt (most_dark q l c) (most_made q l c))), λ k low. told-known c k low))

  group-known : (group : Group) (set named : List Bool) → ((s : ℕ) → s < 64 → IsTrue (is_in named s) → IsChosen group q l set s) → Is (of_group group named)
  group-known Ahead set named each = (tt, λ s low there. (and_parts (is_in l.straight s) (not (is_like (at q.board s) (at (array_of q.odds) s))) (each s low there)).0)
  group-known Original set named each = (tt, λ s low there. (each s low there).1)

  -- men of a kind stand on their squares
  a-man : (c : Colour) (k : Kind) (place : Option Man) → is_the c k place ≡ true → is_man place ≡ true
  a-man c k None h = absurd (both_ways false refl h)
  a-man c k (Some m) h = refl

  breed-man : (c : Colour) (breed : Breed) (s : ℕ) → is_of_breed c breed q.board s ≡ true → is_man (at q.board s) ≡ true
  breed-man c Queens s h = a-man c Queen (at q.board s) h
  breed-man c Rooks s h = a-man c Rook (at q.board s) h
  breed-man c DarkBishops s h = a-man c Bishop (at q.board s) (and_parts (is_the c Bishop (at q.board s)) (is_dark s) h).0
  breed-man c LightBishops s h = a-man c Bishop (at q.board s) (and_parts (is_the c Bishop (at q.board s)) (is_light s) h).0
  breed-man c Knights s h = a-man c Knight (at q.board s) h

  among-known : (c : Colour) (breed : Breed) (x : Line) → IsAmongLine q l c breed (Some x) → Is x
  among-known c breed x is =
      let y = cond_some (nat_lt (piece_homes q l is.0) (number_in is.0)) _ x (sym is.2) in
      let more = ltb-true (piece_homes q l is.0) (number_in is.0) y.0 in
      subst Is y.1 (tt, (λ s low there. breed-man c breed s ((is.1 s low).0 there).0, omega arith))

  whole-known : (whole : Whole) (set : List Bool) (x : Line) → IsFrozen q set → IsWhole whole q l set (Some x) → Is x
  whole-known Unmoved set x frozen is = subst Is (sym is.0) (tt, frozen)
  whole-known (Lacks c) set x frozen is = let y = cond_some (is_somebody (losses_of c (array_of q.odds) q.board)) _ x (sym is) in subst Is y.1 (tt, refl)
  whole-known (Captures c) set x frozen is = let y = cond_some _ _ x (sym is) in subst Is y.1 (captures-known c)
  whole-known (Among c breed) set x frozen is = among-known c breed x is
  whole-known (Those group) set x frozen is = subst Is (sym is.1) (group-known group set is.0 (λ s low. (is.2 s low).0))

  taker-known : (h : ℕ) (struck unstruck : Bool) → is_struck (array_of q.odds) l.fates h ≡ struck → is_unstruck (array_of q.odds) l.fates h ≡ unstruck → OfTaker (λ f. IsKnown f q l) h (cond struck taker.Pawn (cond unstruck taker.Officer taker.Anyone))
  taker-known h true unstruck first second = first
  taker-known h false true first second = second
  taker-known h false false first second = tt

  manner-known : (h : ℕ) (pawn unpromoted promoted : Bool) → is_unpromoted (array_of q.odds) l.fates h ≡ unpromoted → is_promoted (array_of q.odds) l.fates h ≡ promoted → OfManner (λ f. IsKnown f q l) h (cond pawn (cond unpromoted manner.AsPawn (cond promoted manner.AsPromoted manner.Anyhow)) manner.Anyhow)
  manner-known h true true promoted first second = first
  manner-known h true false true first second = second
  manner-known h true false false first second = tt
  manner-known h false unpromoted promoted first second = tt

  -- the homes that aren't left for a man are ruled out
  left-known : (s : ℕ) → is_man (at q.board s) ≡ true → IsKnown (Began s (homes_left q l s)) q l
  left-known s man = (
    man,
    λ h low asked out. elim (cases_Bool (is_in (slice_index_or l.homes s []) h)) [
      | inl ruled_out ↦ ruled_out
      | inr still ↦
          let there = is_in-that (is_left q l s) h low ∙ and_from _ _ asked (ap not still) in
          absurd (both_ways _ (not-so (is_in (homes_left q l s) h) out) there)
    ],
  )

  pawn-known : (c : Colour) (s : ℕ) (x : Line) → s < 64 → IsTrue (is_moving q l c s) → TellsPawn q l s (Some x) → Is x
  pawn-known c s x low moving told =
      let y = cond_some (is_pawn_news (homes_left q l s) s told.number) _ x (sym told.line_is) in
      subst Is y.1 (low, (left-known s (a-pawn (at q.board s) told.took.0), told.took, told.exact_is.0, told.took.0))

  -- the set beside which where men fell is told is whole and frozen
  abbrev IsBeside : Topic → Type 0
  IsBeside (Falls set) = (length set ≡ 64) × IsFrozen q set
  IsBeside _ = Unit {0}

  within-known : (set : List Bool) (h : ℕ) (tells : Bool) → (length set ≡ 64) × IsFrozen q set → tells_within q set h ≡ tells → OfWithin (λ f. IsKnown f q l) h (cond tells (region set h) (squares_of 0))
  within-known set h true beside is = λ told. ((and_parts (has_officer q h) _ is).0, record { set = set; whole = beside.0; frozen = beside.1; within = λ s low there. there })
  within-known set h false beside is = λ told. absurd (both_ways _ (none-in-zero h) told)

  square-known : (topic : Topic) (s : ℕ) (x : Line) → s < 64 → IsBeside topic → IsSquareLine topic q l s (Some x) → Is x
  square-known (Pawns c) s x low beside is = elim (cases_Bool (is_moving q l c s)) [
    | inl moving ↦ pawn-known c s x low moving (is.0 moving)
    | inr other ↦ cc (is.1 other)
  ]
  square-known (Men c) s x low beside is = subst Is (sym is.2) (low, is.3.1)
  square-known (Officers c) s x low beside is = subst Is (sym is.1) (low, (is.0.1, left-known s is.0.1.0))
  square-known (Falls set) s x low beside is =
      let y = cond_some (is_fallen (array_of q.odds) l.fates s && is_news q l set s) _ x (sym is) in
      subst Is y.1 (low, ((and_parts (is_fallen (array_of q.odds) l.fates s) (is_news q l set s) y.0).0, taker-known s (is_struck (array_of q.odds) l.fates s) (is_unstruck (array_of q.odds) l.fates s) refl refl, manner-known s (is_a APawn (at (array_of q.odds) s)) (is_unpromoted (array_of q.odds) l.fates s) (is_promoted (array_of q.odds) l.fates s) refl refl, within-known set s (tells_within q set s) beside refl))
  square-known Promotions s x low beside is =
      let y = cond_some (is_promoted (array_of q.odds) l.fates s && is_a APawn (at (array_of q.odds) s)) _ x (sym is) in
      subst Is y.1 (low, (and_parts (is_promoted (array_of q.odds) l.fates s) (is_a APawn (at (array_of q.odds) s)) y.0).0)

  module _ (is : IsLedgerOf q l) (set : List Bool) (whole : length set ≡ 64) (frozen : IsFrozen q set) where
    true-line : (x : Line) → Is x → IsLineTrue q x
    true-line x known g reaches = known-line-reached x q l known.0 is known.1 g reaches

    true-one : (line : Option Line) → ((x : Line) → line ≡ Some x → Is x) → All (IsLineTrue q) (one_line line)
    true-one None each = All-nil (IsLineTrue q)
    true-one (Some x) each = All-cons (IsLineTrue q) x [] (true-line x (each x refl)) (All-nil (IsLineTrue q))

    true-whole : (whole : Whole) (xs : List Line) → TellsWhole whole q l set xs → All (IsLineTrue q) xs
    true-whole whole xs told = subst (All (IsLineTrue q)) (sym told.2) (true-one told.0 (λ x e. whole-known whole set x frozen (subst (IsWhole whole q l set) e told.1)))

    true-first : (topic : Topic) (n : ℕ) (xs : List Line) → n ≤ 64 → IsBeside topic → TellsFirst topic q l n xs → All (IsLineTrue q) xs
    unfolding TellsFirst
    true-first topic zero xs few beside told = subst (All (IsLineTrue q)) (sym told) (All-nil (IsLineTrue q))
    true-first topic (suc n) xs few beside told =
        subst (All (IsLineTrue q)) (sym told.4)
        (All-append (IsLineTrue q) told.0 (one_line told.1) (true-first topic n told.0 (omega arith) beside told.2) (true-one told.1 (λ x e. square-known topic n x (omega arith) beside (subst (IsSquareLine topic q l n) e told.3))))

    true-then : (P Q : List Line → Type 0) → ((xs : List Line) → P xs → All (IsLineTrue q) xs) → ((xs : List Line) → Q xs → All (IsLineTrue q) xs) → (xs : List Line) → Then P Q xs → All (IsLineTrue q) xs
    true-then P Q first last xs told = subst (All (IsLineTrue q)) (sym told.all) (All-append (IsLineTrue q) told.front told.rest (first told.front told.first) (last told.rest told.last))

    -- what is told square by square, and the rest
    true-squares : (topic : Topic) → IsBeside topic → (xs : List Line) → TellsFirst topic q l 64 xs → All (IsLineTrue q) xs
    true-squares topic beside xs told = true-first topic 64 xs (omega arith) beside told

    true-among : (c : Colour) (xs : List Line) → TellsAmong c q l set xs → All (IsLineTrue q) xs
    true-among c = true-then _ _ (true-whole (Among c Queens)) (true-then _ _ (true-whole (Among c Rooks)) (true-then _ _ (true-whole (Among c DarkBishops)) (true-then _ _ (true-whole (Among c LightBishops)) (true-whole (Among c Knights)))))

    true-all : (xs : List Line) → TellsAll q l set xs → All (IsLineTrue q) xs
    true-all =
        true-then _ _ (true-whole Unmoved)
        (true-then _ _ (true-whole (Lacks White))
        (true-then _ _ (true-whole (Lacks Black))
        (true-then _ _ (true-whole (Captures White))
        (true-then _ _ (true-whole (Captures Black))
        (true-then _ _ (true-squares (Pawns White) tt)
        (true-then _ _ (true-squares (Pawns Black) tt)
        (true-then _ _ (true-squares (Men White) tt)
        (true-then _ _ (true-squares (Men Black) tt)
        (true-then _ _ (true-whole (Those Ahead))
        (true-then _ _ (true-whole (Those Original))
        (true-then _ _ (true-squares (Officers White) tt)
        (true-then _ _ (true-squares (Officers Black) tt)
        (true-then _ _ (true-among White)
        (true-then _ _ (true-among Black)
        (true-then _ _ (true-squares (Falls set) (whole, frozen))
        (true-squares Promotions tt))))))))))))))))

-- each line that is told of a query's ledger is true
pub all-true : (q : Asked) (lines : List Line) → TellsLines q lines → All (IsLineTrue q) lines
all-true q lines t = elim t.told [
  | inl void ↦ subst (All (IsLineTrue q)) (sym void.1) (All-nil (IsLineTrue q))
  | inr told ↦ true-all q t.ledger t.ledger_is t.set t.set_is.whole t.set_is.frozen lines told.1
]
