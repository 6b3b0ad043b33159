-- The walk over the nodes of a sketch, as the functions begin it and go on.
use Rattle.std.proofs.Common.{◌≡◌, ℕ, ◌≤◌, Bool, false, List, [], sym, ap, ◌∙◌, subst}
use Rattle.std.specs.Prelude.{IsTrue, Option, Some, None}
use Rattle.std.specs.List.{Contains}
use Rattle.board_base.specs.Rights.{Rights}
use Rattle.capture_prices.specs.Prices.{PriceList, are_prices}
use Rattle.query_base.specs.Asked.{Asked}
use Rattle.sketch_text.specs.Heads.{Head}
use Rattle.sketch_body.specs.Due.{Due, Reading, start}
use Rattle.sketch_body.proofs.Readings.{start_parts}
use Rattle.sketch_checker.specs.Proofs.{Setting}
use Rattle.sketch_checker.specs.Supports.{setting_of}
use Rattle.sketch_checker.specs.Walks.{Frame as SketchFrame, Opened}
use Rattle.general_lemmas.proofs.Lists.{contains-none}
use Rattle.cert_checker.specs.Frames.{Sketched, first_sketched}
use Rattle.cert_checker.specs.Sketches.{files_of}
use Rattle.cert_checker.specs.Sketching.{IsInStep, IsReading, SketchState, nodes_at}
use Rattle.cert_checker.proofs.SketchSteps.{first_in_step}

-- a state by what the functions keep
abbrev pub state : ℕ → Reading → Asked → Setting → Bool → Option Opened → List SketchFrame → SketchState
state u r q g b o fs = record { units = u; reading = r; sketched = record { query = q; exact = g.exact; prices = g.prices; wanted = r.due.wanted; nodes = nodes_at b o fs }; setting = g }

-- THE FIRST LINE

pub begun_sketched : (u units : ℕ) (q : Asked) (h : Head) (r : Reading) (g : Setting) (o : Option Opened) (fs : List SketchFrame) → start u h ≡ Some r → g ≡ setting_of q (files_of h.files) [] → (state units r q g false o fs).sketched ≡ first_sketched q h
begun_sketched u units q h r g o fs e is =
    let wanted : r.due.wanted ≡ h.prices = ap (λ (d : Due). d.wanted) (start_parts u h r e).due_is in
    ap (λ (x : Setting). record { query = q; exact = x.exact; prices = x.prices; wanted = r.due.wanted; nodes = None }) is ∙ ap (λ (w : ℕ). record { query = q; exact = files_of h.files; prices = []; wanted = w; nodes = None }) wanted

pub begun_reading : (u units : ℕ) (q : Asked) (h : Head) (r : Reading) (g : Setting) (o : Option Opened) (fs : List SketchFrame) → start u h ≡ Some r → g ≡ setting_of q (files_of h.files) [] → h.prices ≤ 64 → IsReading (state units r q g false o fs)
begun_reading u units q h r g o fs e is few =
    let same : (state units r q g false o fs).sketched ≡ first_sketched q h = begun_sketched u units q h r g o fs e is in
    let P : r.due.prices ≡ h.prices = ap (λ (d : Due). d.prices) (start_parts u h r e).due_is in
    record {
      in_step = subst (λ (s : Sketched). IsInStep s r) (sym same) (first_in_step q u h r e);
      few = subst (λ (n : ℕ). n ≤ 64) (sym P) few;
      known = subst (λ (s : Sketched). (p : PriceList) → Contains s.prices p → IsTrue (are_prices p)) (sym same) (λ p there. absurd (contains-none p there));
      setting = is ∙ ap (λ (s : Sketched). setting_of s.query s.exact s.prices) (sym same);
    }

-- the setting, as it is made
pub set_as : (q : Asked) (h : Head) (odds : List Bool) (held : Rights) (exact : List Bool) (files : List ℕ) (g : Setting) → odds ≡ q.odds → held ≡ q.held → g ≡ record { odds = odds; held = held; exact = exact; prices = [] } → exact ≡ files_of files → files ≡ h.files → g ≡ setting_of q (files_of h.files) []
set_as q h odds held exact files g odd right is one two =
    is ∙ ap (λ (o : List Bool). record { odds = o; held = held; exact = exact; prices = [] }) odd ∙ ap (λ (r : Rights). record { odds = q.odds; held = r; exact = exact; prices = [] }) right
    ∙ ap (λ (x : List Bool). setting_of q x []) (one ∙ ap files_of two)
