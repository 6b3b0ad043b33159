use Rattle.std.proofs.Common.{◌≡◌, ℕ, Bool, true, false, List, ◌++◌, ◌∙◌, ap, sym, get_or}
use Rattle.std.specs.Prelude.{Option, Some, None}
use Rattle.std.specs.Str.{bytes_eq}
use Rattle.std.proofs.lemmas.List.{get_or_default}
use Rattle.std.proofs.lemmas.Result.{IfOk-equal}
use Rattle.proof_prose.specs.Paragraphs.{as_in, first_saying, said_or}
use Rattle.proof_prose.specs.declared.paragraphs.Said.{Said}
use Rattle.proof_prose.proofs.Runs.{found-here, found-later, found-nowhere}
use Rattle.proof_prose.proofs.paragraphs.push_first.Goals as goal

pub returns-then-are_same : goal.returns-then-are_same
returns-then-are_same c =
    let test : Said → Bool = λ s. bytes_eq s.body c.args.body.now in
    let found : Said = c.index-said-k-then-are_same.result in
    let here : Said = c.index-said-k.result in
    let again : here ≡ found =
    c.index-said-k.is ∙ get_or_default c.args.said.now c.loop-k.k here found c.loop-k-test.true ∙ sym c.index-said-k-then-are_same.is in
    let hit : test (get_or c.args.said.now c.loop-k.k here) ≡ true =
    ap (λ (l : List ℕ). bytes_eq l c.args.body.now) (sym c.text.ensures) ∙ sym c.are_same.ensures ∙ c.if-are_same.true in
    let one : first_saying c.args.body.now c.args.said.now ≡ Some here =
    sym c.loop-k.invariant.found ∙ found-here test c.args.said.now c.loop-k.k here c.loop-k-test.true hit ∙ ap (λ (s : Said). Some s) (sym c.index-said-k.is) in
    let name : c.text-then-are_same.result.now ≡ here.name = c.text-then-are_same.ensures ∙ ap (λ (s : Said). s.name) (sym c.index-said-k-then-are_same.is ∙ sym again) in
    IfOk-equal c.push_as_in.result c.push_as_in.new.out.items _ _ c.push_as_in.ensures
    (ap (λ (l : List ℕ). l ++ as_in c.text-then-are_same.result.now) c.loop-k.invariant.same
    ∙ ap (λ (l : List ℕ). c.args.out.now.items ++ as_in l) name
    ∙ ap (λ (o : Option Said). c.args.out.now.items ++ said_or c.args.body.now o) (sym one))

pub loop-k-preserved : goal.loop-k-preserved
loop-k-preserved c =
    let test : Said → Bool = λ s. bytes_eq s.body c.args.body.now in
    let here : Said = c.index-said-k.result in
    let miss : test (get_or c.args.said.now c.loop-k.k here) ≡ false =
    ap (λ (l : List ℕ). bytes_eq l c.args.body.now) (sym c.text.ensures) ∙ sym c.are_same.ensures ∙ c.if-are_same.false in
    record {
      same = c.loop-k.invariant.same;
      found = sym (found-later test c.args.said.now c.loop-k.k here c.loop-k-test.true miss) ∙ c.loop-k.invariant.found;
    }

pub returns : goal.returns
returns c =
    let test : Said → Bool = λ s. bytes_eq s.body c.args.body.now in
    let none : first_saying c.args.body.now c.args.said.now ≡ None =
    sym c.loop-k.invariant.found ∙ found-nowhere test c.args.said.now c.loop-k.k c.loop-k-test.false in
    IfOk-equal c.say.result c.say.new.out.items _ _ c.say.ensures
    (ap (λ (l : List ℕ). l ++ c.args.body.now) c.loop-k.invariant.same
    ∙ ap (λ (o : Option Said). c.args.out.now.items ++ said_or c.args.body.now o) (sym none))
