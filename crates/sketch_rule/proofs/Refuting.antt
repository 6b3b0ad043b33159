-- A tree refutes what it says.
use Rattle.std.proofs.Common.{◌≡◌, ℕ, inl, inr, Bool, true, false, List, [], ◌∷◌, refl, sym, ◌∙◌, subst}
use Rattle.std.proofs.lemmas.Bool.{both_ways}
use Rattle.std.specs.List.{Contains}
use Rattle.general_lemmas.proofs.Lists.{contains-cases, contains-none}
use Rattle.board_base.specs.Rights.{Rights}
use Rattle.board_base.specs.declared.men.Kind.{Kind}
use Rattle.board_base.specs.declared.men.Kind.TheVariants.{Pawn, Knight, Bishop, Rook, Queen, King}
use Rattle.sketch_list.specs.Figures.{Sketch}
use Rattle.sketch_list.specs.Known.{known_at, marked_at}
use Rattle.sketch_list.specs.Refuted.{Refuted, account, kinds, mark, wider}
use Rattle.sketch_list.specs.Listed.{Earlier, earlier}
use Rattle.sketch_list.proofs.Refuting.{listed-enough}
use Rattle.sketch_rule.specs.Trees.{Forest, Refutes, RefutesEach, Tree, closed, is_heavy, marked, more, none, split, stepped}

-- one of three
of-three : (o : List Bool) (held : Rights) (i : ℕ) (S : Sketch) → Refuted o held (known_at i Knight S) → Refuted o held (known_at i Rook S) → Refuted o held (known_at i Queen S) → (k : Kind) → is_heavy k ≡ true → Refuted o held (known_at i k S)
of-three o held i S knight rook queen Knight may = knight
of-three o held i S knight rook queen Rook may = rook
of-three o held i S knight rook queen Queen may = queen
of-three o held i S knight rook queen Pawn may = absurd (both_ways false refl may)
of-three o held i S knight rook queen Bishop may = absurd (both_ways false refl may)
of-three o held i S knight rook queen King may = absurd (both_ways false refl may)

mutual
  pub tree-refutes : (tree : Tree) (o : List Bool) (held : Rights) (exact : List Bool) (S : Sketch) → Refutes tree o held exact S → Refuted o held S
  tree-refutes closed o held exact S it = account S it
  tree-refutes (marked i tree) o held exact S it = mark S i it.0 (tree-refutes tree o held exact (marked_at i S) it.1)
  tree-refutes (stepped kids) o held exact S it = wider S it.0 it.1.above (listed-enough o held exact it.0 it.1.closed it.2 (each-refutes kids o held exact (earlier o exact it.0) it.3))
  tree-refutes (split i knight rook queen) o held exact S it =
      kinds S i it.0.figure it.0.found (λ k may. of-three o held i S (tree-refutes knight o held exact (known_at i Knight S) it.1) (tree-refutes rook o held exact (known_at i Rook S) it.2) (tree-refutes queen o held exact (known_at i Queen S) it.3) k (sym (it.0.kinds k) ∙ may))

  each-refutes : (kids : Forest) (o : List Bool) (held : Rights) (exact : List Bool) (es : List Earlier) → RefutesEach kids o held exact es → (e : Earlier) → Contains es e → Refuted o held e.sketch
  each-refutes none o held exact [] it e there = absurd (contains-none e there)
  each-refutes none o held exact (d ∷ es) it e there = absurd it
  each-refutes (more tree kids) o held exact [] it e there = absurd it
  each-refutes (more tree kids) o held exact (d ∷ es) it e there = elim (contains-cases d es e there) [
    | inl here ↦ subst (λ (x : Earlier). Refuted o held x.sketch) here (tree-refutes tree o held exact d.sketch it.0)
    | inr later ↦ each-refutes kids o held exact es it.1 e later
  ]
