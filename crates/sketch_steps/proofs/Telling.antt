-- Steps, test by test.
use Rattle.std.proofs.Common.{◌≡◌, ℕ, ◌+◌, ◌<◌, ◌==◌, Bool, true, false, cond, ◌&&◌, ◌||◌, not, List, refl, ap, sym, ◌∙◌}
use Rattle.std.proofs.lemmas.Bool.{and_left, both_ways, eq-eqb, lt-ltb, ne_eqb}
use Rattle.std.specs.Prelude.{None, Option, Some, is_none, nat_lt}
use Rattle.std.specs.List.{list_all, list_any}
use Rattle.board_base.specs.Attacks.{files_apart, one_ahead}
use Rattle.board_base.specs.Board.{file, is_in, rank, same_kind}
use Rattle.board_base.specs.Legal.{is_officer, last_rank}
use Rattle.board_base.specs.Play.{en_passant_rank}
use Rattle.board_base.specs.declared.men.Colour.{Colour}
use Rattle.board_base.specs.declared.men.Kind.{Kind}
use Rattle.board_base.specs.declared.men.Kind.TheVariants.{Pawn, King}
use Rattle.play_rules.specs.Laws.{is_end}
use Rattle.figures.specs.Figures.{Figure, Sketch, figure_at, fixed_squares, may_be}
use Rattle.figures.specs.Steps.{Step, is_step, made_by, takes}
use Rattle.sketch_sets.specs.Files.{gives_room, has_all_room, is_above, is_below, is_beside, straight}
use Rattle.sketch_steps.specs.Arrivals.{arrives_on}
use Rattle.sketch_steps.specs.Stepping.{captures_by, ends_are_free, has_next, is_gone, is_made, is_next_to, is_way, keeps, passes_by, place_is_free, squares_are_free, takes_by, yields}

next-same : (n m n' m' : ℕ) → n ≡ n' → m ≡ m' → (n == m + 1) ≡ (n' == m' + 1)
next-same n m n' m' a b = cc

pub next-made : (g : Figure) (p n m : ℕ) → n ≡ p → m ≡ g.place → (n == m + 1) ≡ is_next_to p g
unfolding is_next_to
next-made g p n m a b = next-same n m p g.place a b

pub has-next-made : (T : Sketch) (n : ℕ) (b : Bool) → b ≡ list_any (is_next_to n) T → ((n == 0) || b) ≡ has_next T n
unfolding has_next is_next_to
has-next-made T n b e = ap (λ (x : Bool). (n == 0) || x) e

pub arrives-end : (f : Figure) (t : ℕ) (b : Bool) → rank t ≡ last_rank f.colour → b ≡ list_any is_officer f.kinds → b ≡ arrives_on f t
unfolding arrives_on
arrives-end f t b same e = e ∙ sym (ap (λ (x : Bool). cond x (list_any is_officer f.kinds) (may_be f Pawn)) (eq-eqb (rank t) (last_rank f.colour) same))

pub arrives-short : (f : Figure) (t : ℕ) (b : Bool) → (rank t ≡ last_rank f.colour → ⊥) → b ≡ may_be f Pawn → b ≡ arrives_on f t
unfolding arrives_on
arrives-short f t b other e = e ∙ sym (ap (λ (x : Bool). cond x (list_any is_officer f.kinds) (may_be f Pawn)) (ne_eqb (rank t) (last_rank f.colour) other))

inside-both : (a l m : Bool) → l ≡ true → m ≡ true → a ≡ (a && l && m)
inside-both true l m p q = sym (ap (λ (y : Bool). y && m) p ∙ q)
inside-both false l m p q = refl

same-three : (a e d a' e' d' : Bool) → a ≡ a' → e ≡ e' → d ≡ d' → (a && not e && not d) ≡ (a' && not e' && not d')
same-three a e d a' e' d' p q r = cc

pub ends-made : (T : Sketch) (f : Figure) (s t : ℕ) (a e d : Bool) → t < 64 → s < 64 → a ≡ is_in f.squares t → e ≡ is_end s → d ≡ is_in (fixed_squares T) s → (a && not e && not d) ≡ ends_are_free T f s t
unfolding ends_are_free
ends-made T f s t a e d to from p q r =
    same-three a e d (is_in f.squares t) (is_end s) (is_in (fixed_squares T) s) p q r
    ∙ ap (λ (y : Bool). y && not (is_end s) && not (is_in (fixed_squares T) s)) (inside-both (is_in f.squares t) (nat_lt t 64) (nat_lt s 64) (lt-ltb t 64 to) (lt-ltb s 64 from))

pub squares-made : (T : Sketch) (f : Figure) (x : Step) (b : Bool) → b ≡ ends_are_free T f x.from x.to → b ≡ squares_are_free T f x
unfolding squares_are_free ends_are_free
squares-made T f x b e = e

same-ranks : (d r p d' r' p' : ℕ) (b b' : Bool) → d ≡ d' → r ≡ r' → p ≡ p' → b ≡ b' → ((d == 1) && (r == p) && b) ≡ ((d' == 1) && (r' == p') && b')
same-ranks d r p d' r' p' b b' h1 h2 h3 h4 = cc

pub passes-made : (c : Colour) (x : Step) (d r p : ℕ) (b : Bool) → d ≡ files_apart x.from x.to → r ≡ rank x.from → p ≡ en_passant_rank c → b ≡ is_none x.taken → ((d == 1) && (r == p) && b) ≡ passes_by c x
unfolding passes_by
passes-made c x d r p b h1 h2 h3 h4 = same-ranks d r p (files_apart x.from x.to) (rank x.from) (en_passant_rank c) b (is_none x.taken) h1 h2 h3 h4

-- the place on the file
yields-told : (x : Step) (g : Figure) → yields x g ≡ (not (is_beside x.from g) || ((not (nat_lt g.place x.place) || is_below x.from g) && (not (not (nat_lt g.place x.place)) || is_above x.from g)))
unfolding yields is_beside is_below is_above
yields-told x g = refl

and-true : (b : Bool) → (b && true) ≡ b
and-true true = refl
and-true false = refl

pub yields-off : (x : Step) (g : Figure) → is_beside x.from g ≡ false → true ≡ yields x g
yields-off x g off = sym (yields-told x g ∙ ap (λ (b : Bool). not b || ((not (nat_lt g.place x.place) || is_below x.from g) && (not (not (nat_lt g.place x.place)) || is_above x.from g))) off)

yields-on : (x : Step) (g : Figure) (low : Bool) → is_beside x.from g ≡ true → nat_lt g.place x.place ≡ low → yields x g ≡ ((not low || is_below x.from g) && (not (not low) || is_above x.from g))
yields-on x g low on e = yields-told x g ∙ ap (λ (b : Bool). not b || ((not (nat_lt g.place x.place) || is_below x.from g) && (not (not (nat_lt g.place x.place)) || is_above x.from g))) on ∙ ap (λ (b : Bool). (not b || is_below x.from g) && (not (not b) || is_above x.from g)) e

pub yields-below : (x : Step) (g : Figure) → is_beside x.from g ≡ true → nat_lt g.place x.place ≡ true → is_below x.from g ≡ yields x g
yields-below x g on low = sym (yields-on x g true on low ∙ and-true (is_below x.from g))

pub yields-above : (x : Step) (g : Figure) → is_beside x.from g ≡ true → nat_lt g.place x.place ≡ false → is_above x.from g ≡ yields x g
yields-above x g on high = sym (yields-on x g false on high)

same-two : (a b a' b' : Bool) → a ≡ a' → b ≡ b' → (a && b) ≡ (a' && b')
same-two a b a' b' p q = cc

pub place-made : (T : Sketch) (x : Step) (a b : Bool) → a ≡ has_next T x.place → b ≡ list_all (yields x) T → (a && b) ≡ place_is_free T x
unfolding place_is_free has_next yields
place-made T x a b p q = ap (λ (y : Bool). y && b) p ∙ ap (λ (y : Bool). has_next T x.place && y) q

same-kept : (a p r : Bool) (m n : ℕ) (a' p' r' : Bool) (m' n' : ℕ) → a ≡ a' → p ≡ p' → m ≡ m' → n ≡ n' → r ≡ r' → (a && not p && (m == n) && r) ≡ (a' && not p' && (m' == n') && r')
same-kept a p r m n a' p' r' m' n' h1 h2 h3 h4 h5 = cc

pub keeps-made : (T : Sketch) (f : Figure) (x : Step) (a p r : Bool) (m n : ℕ) → a ≡ is_none x.taken → p ≡ x.passing → m ≡ x.place → n ≡ f.place → r ≡ has_all_room T f x.from → (a && not p && (m == n) && r) ≡ keeps T f x
unfolding keeps gives_room
keeps-made T f x a p r m n h1 h2 h3 h4 h5 = same-kept a p r m n (is_none x.taken) x.passing (has_all_room T f x.from) x.place f.place h1 h2 h3 h4 h5

same-gone : (a b d s k : Bool) (r l : ℕ) (a' b' d' s' k' : Bool) (r' l' : ℕ) → a ≡ a' → b ≡ b' → d ≡ d' → r ≡ r' → l ≡ l' → s ≡ s' → k ≡ k' → (a && b && d && not (r == l) && s && k) ≡ (a' && b' && d' && not (r' == l') && s' && k')
same-gone a b d s k r l a' b' d' s' k' r' l' h1 h2 h3 h4 h5 h6 h7 = cc

gone-told : (exact : List Bool) (T : Sketch) (f : Figure) (x : Step) → (is_in exact (file x.from) && squares_are_free T f x && may_be f Pawn && not (rank x.to == last_rank f.colour) && straight f.colour x.from x.to && keeps T f x) ≡ is_gone exact T f x
unfolding is_gone squares_are_free straight keeps
gone-told exact T f x = refl

pub gone-made : (exact : List Bool) (T : Sketch) (f : Figure) (x : Step) (a b d s k : Bool) (r l : ℕ) → a ≡ is_in exact (file x.from) → b ≡ squares_are_free T f x → d ≡ may_be f Pawn → r ≡ rank x.to → l ≡ last_rank f.colour → s ≡ straight f.colour x.from x.to → k ≡ keeps T f x → (a && b && d && not (r == l) && s && k) ≡ is_gone exact T f x
gone-made exact T f x a b d s k r l h1 h2 h3 h4 h5 h6 h7 = same-gone a b d s k r l (is_in exact (file x.from)) (squares_are_free T f x) (may_be f Pawn) (straight f.colour x.from x.to) (keeps T f x) (rank x.to) (last_rank f.colour) h1 h2 h3 h4 h5 h6 h7 ∙ gone-told exact T f x

pub gone-none : (exact : List Bool) (T : Sketch) (f : Figure) (x : Step) → is_in exact (file x.from) ≡ false → false ≡ is_gone exact T f x
gone-none exact T f x none = sym (sym (gone-made exact T f x (is_in exact (file x.from)) (squares_are_free T f x) (may_be f Pawn) (straight f.colour x.from x.to) (keeps T f x) (rank x.to) (last_rank f.colour) refl refl refl refl refl refl refl) ∙ ap (λ (a : Bool). a && squares_are_free T f x && may_be f Pawn && not (rank x.to == last_rank f.colour) && straight f.colour x.from x.to && keeps T f x) none)

-- whom the step takes
same-pairs : (a b r l a' b' r' l' : ℕ) → a ≡ a' → b ≡ b' → r ≡ r' → l ≡ l' → ((a == b) && (r == l)) ≡ ((a' == b') && (r' == l'))
same-pairs a b r l a' b' r' l' h1 h2 h3 h4 = cc

pub takes-nobody : (c : Colour) (x : Step) (a b r l : ℕ) → a ≡ file x.from → b ≡ file x.to → r ≡ rank x.to → l ≡ last_rank c → x.taken ≡ None → ((a == b) && (r == l)) ≡ takes_by c x
unfolding takes_by
takes-nobody c x a b r l h1 h2 h3 h4 none = same-pairs a b r l (file x.from) (file x.to) (rank x.to) (last_rank c) h1 h2 h3 h4 ∙ sym (ap (λ (o : Option Kind). takes c x.from x.to o) none)

same-man : (d d' : ℕ) (k p e k' p' e' : Bool) → d ≡ d' → k ≡ k' → p ≡ p' → e ≡ e' → ((d == 1) && not k && not (p && e)) ≡ ((d' == 1) && not k' && not (p' && e'))
same-man d d' k p e k' p' e' h1 h2 h3 h4 = cc

pub takes-man : (c : Colour) (x : Step) (j : Kind) (d : ℕ) (k p e : Bool) → d ≡ files_apart x.from x.to → k ≡ same_kind King j → p ≡ same_kind Pawn j → e ≡ is_end x.to → x.taken ≡ Some j → ((d == 1) && not k && not (p && e)) ≡ takes_by c x
unfolding takes_by
takes-man c x j d k p e h1 h2 h3 h4 some = same-man d (files_apart x.from x.to) k p e (same_kind King j) (same_kind Pawn j) (is_end x.to) h1 h2 h3 h4 ∙ sym (ap (λ (o : Option Kind). takes c x.from x.to o) some)

pub captures-past : (c : Colour) (x : Step) (b : Bool) → x.passing ≡ true → b ≡ passes_by c x → b ≡ captures_by c x
unfolding captures_by
captures-past c x b passing e = e ∙ sym (ap (λ (y : Bool). cond y (passes_by c x) (takes_by c x)) passing)

pub captures-there : (c : Colour) (x : Step) (b : Bool) → x.passing ≡ false → b ≡ takes_by c x → b ≡ captures_by c x
unfolding captures_by
captures-there c x b passing e = e ∙ sym (ap (λ (y : Bool). cond y (passes_by c x) (takes_by c x)) passing)

same-way : (m s a r k m' s' a' r' k' : Bool) → m ≡ m' → s ≡ s' → a ≡ a' → r ≡ r' → k ≡ k' → (not m && s && a && r && k) ≡ (not m' && s' && a' && r' && k')
same-way m s a r k m' s' a' r' k' h1 h2 h3 h4 h5 = cc

way-made : (T : Sketch) (f : Figure) (x : Step) (m s a r k : Bool) → m ≡ f.marked → s ≡ squares_are_free T f x → a ≡ one_ahead f.colour x.from x.to → r ≡ arrives_on f x.to → k ≡ captures_by f.colour x → (not m && s && a && r && k) ≡ is_way T f x
unfolding is_way
way-made T f x m s a r k h1 h2 h3 h4 h5 = same-way m s a r k f.marked (squares_are_free T f x) (one_ahead f.colour x.from x.to) (arrives_on f x.to) (captures_by f.colour x) h1 h2 h3 h4 h5

-- what the squares alone tell comes last
out-anyway : (m s a r k : Bool) → (not m && a && r && k) ≡ false → false ≡ (not m && s && a && r && k)
out-anyway true s a r k h = refl
out-anyway false false a r k h = refl
out-anyway false true a r k h = sym h

last-alone : (m s a r k : Bool) → (not m && a && r && k) ≡ true → s ≡ (not m && s && a && r && k)
last-alone true s a r k h = absurd (both_ways false refl h)
last-alone false false a r k h = refl
last-alone false true a r k h = sym h

pub way-none : (T : Sketch) (f : Figure) (x : Step) (m a r k : Bool) → m ≡ f.marked → a ≡ one_ahead f.colour x.from x.to → r ≡ arrives_on f x.to → k ≡ captures_by f.colour x → (not m && a && r && k) ≡ false → false ≡ is_way T f x
way-none T f x m a r k h1 h3 h4 h5 none = out-anyway m (squares_are_free T f x) a r k none ∙ way-made T f x m (squares_are_free T f x) a r k h1 refl h3 h4 h5

pub way-squares : (T : Sketch) (f : Figure) (x : Step) (m s a r k : Bool) → m ≡ f.marked → s ≡ squares_are_free T f x → a ≡ one_ahead f.colour x.from x.to → r ≡ arrives_on f x.to → k ≡ captures_by f.colour x → (not m && a && r && k) ≡ true → s ≡ is_way T f x
way-squares T f x m s a r k h1 h2 h3 h4 h5 may = last-alone m s a r k may ∙ way-made T f x m s a r k h1 h2 h3 h4 h5

made-told : (T : Sketch) (f : Figure) (x : Step) → (is_way T f x && place_is_free T x) ≡ is_made T f x
unfolding is_made is_way squares_are_free arrives_on captures_by passes_by takes_by place_is_free
made-told T f x = refl

pub made-none : (T : Sketch) (f : Figure) (x : Step) → is_way T f x ≡ false → false ≡ is_made T f x
made-none T f x none = sym (sym (made-told T f x) ∙ and_left _ _ none)

pub made-some : (T : Sketch) (f : Figure) (x : Step) (b : Bool) → is_way T f x ≡ true → b ≡ place_is_free T x → b ≡ is_made T f x
made-some T f x b way e = e ∙ sym (ap (λ (y : Bool). y && place_is_free T x) way) ∙ made-told T f x

pub step-by : (exact : List Bool) (T : Sketch) (x : Step) (f : Figure) (a b : Bool) → figure_at T x.by ≡ Some f → a ≡ is_made T f x → b ≡ is_gone exact T f x → (a || b) ≡ is_step exact T x
unfolding is_step is_made is_gone
step-by exact T x f a b found p q = ap (λ (y : Bool). y || b) p ∙ ap (λ (y : Bool). is_made T f x || y) q ∙ sym (ap (λ (o : Option Figure). made_by exact T o x) found)

pub step-none : (exact : List Bool) (T : Sketch) (x : Step) → figure_at T x.by ≡ None → false ≡ is_step exact T x
unfolding is_step
step-none exact T x none = sym (ap (λ (o : Option Figure). made_by exact T o x) none)
