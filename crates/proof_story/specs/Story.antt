-- A story tells a tree of retractions in paragraphs. A reader looks a node up in it by the retractions that lead there.
use Rattle.std.specs.Prelude.{ℕ, Bool, ◌&&◌, ◌==◌, cond, is_none, List, [], ◌∷◌, Option, Some, None, slice_get, length, not, true, false}
use Rattle.std.proofs.Common.{zero, suc}
use Rattle.std.specs.List.{find, list_any}
use Rattle.board_base.specs.Legal.{same_promo}
use Rattle.board_base.specs.declared.men.Kind.{Kind}
use Rattle.board_base.specs.declared.unmoves.Unmove.{Unmove}
use Rattle.proof_story.specs.declared.stories.Way.{Way}
use Rattle.proof_story.specs.declared.stories.Bundle.{Bundle}
use Rattle.proof_story.specs.declared.stories.Paragraph.{Paragraph}
use Rattle.proof_story.specs.declared.stories.Said.{Said}
use Rattle.proof_story.specs.declared.stories.Said.TheVariants.{Words, As}

-- one of these kinds was captured; where none are named, nobody was
abbrev pub takes : List Kind → Option Kind → Bool
takes kinds captured = cond (length kinds == 0) (is_none captured) (list_any (λ k. same_promo (Some k) captured) kinds)

-- the retraction is of a move to this square, from one of these, that became this
abbrev pub goes : Unmove → Way → Bool
goes u w = (w.to == u.mv.to) && same_promo w.promo u.mv.promo && list_any (λ s. s == u.mv.from) w.origins.items

-- what the retraction captured is as the bundle says
abbrev pub fits : Unmove → Bundle → Bool
fits u b = cond u.ep b.passing (not b.passing && takes b.taken.items u.captured)

-- the retraction is one of the bundle's
abbrev pub is_in_bundle : Unmove → Bundle → Bool
is_in_bundle u b = fits u b && list_any (goes u) b.ways.items

-- the paragraph names the retraction
abbrev pub names : List Paragraph → Unmove → ℕ → Bool
names story u i = elim (slice_get story i) [ None ↦ false | Some p ↦ list_any (is_in_bundle u) p.bundles.items ]

-- the paragraph tells every other move
abbrev pub is_rest : List Paragraph → ℕ → Bool
is_rest story i = elim (slice_get story i) [ None ↦ false | Some p ↦ p.is_rest ]

-- the first of these
abbrev pub or_else : Option ℕ → Option ℕ → Option ℕ
or_else None other = other
or_else (Some i) other = Some i

-- of these paragraphs the first that names the retraction, or else the first that tells every other move
abbrev pub chosen : List Paragraph → Unmove → List ℕ → Option ℕ
chosen story u places = or_else (find (names story u) places) (find (is_rest story) places)

-- the paragraphs below this one
abbrev pub below : List Paragraph → ℕ → List ℕ
below story i = elim (slice_get story i) [ None ↦ [] | Some p ↦ p.below.items ]

-- the paragraph as in which this one is
abbrev pub referred : Said → Option ℕ
referred (Words w) = None
referred (As j) = Some j

-- the same of the paragraph at this place of the story
abbrev pub reference : List Paragraph → ℕ → Option ℕ
reference story i = elim (slice_get story i) [ None ↦ None | Some p ↦ referred p.said ]

-- The paragraph that tells the node to which a retraction leads: below this one, or else below that as in which this one is, and so on,
-- with at most so many references.
abbrev pub next_within : ℕ → List Paragraph → ℕ → Unmove → Option ℕ
next_within zero story i u = None
next_within (suc n) story i u =
    or_else (chosen story u (below story i)) (elim (reference story i) [ None ↦ None | Some j ↦ next_within n story j u ])

-- the same with as many references as it takes
abbrev pub next : List Paragraph → ℕ → Unmove → Option ℕ
next story i u = next_within (length story) story i u

-- the paragraph to which these retractions lead
abbrev pub walk : List Paragraph → ℕ → List Unmove → Option ℕ
walk story i [] = Some i
walk story i (u ∷ rest) = elim (next story i u) [ None ↦ None | Some k ↦ walk story k rest ]

-- what is said in words
abbrev pub worded : Said → Option (List ℕ)
worded (Words w) = Some w
worded (As j) = None

-- what this paragraph says in words of its own
abbrev pub own_words : List Paragraph → ℕ → Option (List ℕ)
own_words story i = elim (slice_get story i) [ None ↦ None | Some p ↦ worded p.said ]

-- what this paragraph says, if need be by that as in which it is, and so on, with at most so many references
abbrev pub words_within : ℕ → List Paragraph → ℕ → Option (List ℕ)
words_within zero story i = None
words_within (suc n) story i = elim (reference story i) [ None ↦ own_words story i | Some j ↦ words_within n story j ]

-- the same with as many references as it takes
abbrev pub words_at : List Paragraph → ℕ → Option (List ℕ)
words_at story i = words_within (length story) story i

-- what is said of the node to which these retractions lead from this paragraph on
abbrev pub told_from : List Paragraph → ℕ → List Unmove → Option (List ℕ)
told_from story i path = elim (walk story i path) [ None ↦ None | Some k ↦ words_at story k ]

-- what the story says of the node to which these retractions lead
abbrev pub looked_up : List Paragraph → List Unmove → Option (List ℕ)
looked_up story path = told_from story 0 path
