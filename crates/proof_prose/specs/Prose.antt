-- The proof of a certificate in plain words.
use Rattle.std.specs.Prelude.{ℕ, ◌≡◌, List, ◌++◌, ◌⊎◌, map}
use Rattle.cert_text.specs.Certificate.{Certificate}
use Rattle.proof_prose.specs.Bodies.{AreSpoken}
use Rattle.proof_prose.specs.Heads.{closing_text, drawn_text, supposition_text}
use Rattle.proof_prose.specs.Nodes.{nodes_of}
use Rattle.proof_prose.specs.Paragraphs.{told_text}
use Rattle.proof_prose.specs.declared.bodies.Spoken.{Spoken}
use Rattle.proof_story.specs.Reading.{TellsPoints}
use Rattle.proof_story.specs.declared.stories.Point.{Point}

-- a node for a story: the retractions that lead to it, and what is said of it
abbrev pub point_of : Spoken → Point
point_of s = record { path = s.node.path; whence = s.node.whence; body = s.body }

-- The nodes are told: by a story in which each is found by the retractions that lead to it, or one after another, each under its number.
abbrev pub TellsNodes : List Spoken → List ℕ → Type 0
TellsNodes spoken text = TellsPoints (map point_of spoken) text ⊎ (text ≡ told_text spoken)

-- The text begins with the claim and what is supposed against it, and ends with the claim again. Between them the nodes of the
-- certificate's tree are told, by sentences that hold.
abbrev pub Retells : Certificate → List ℕ → Type 0
Retells cert text =
    (spoken : List Spoken) × AreSpoken (nodes_of cert) spoken ×
    (middle : List ℕ) × TellsNodes spoken middle × (text ≡ (supposition_text cert.claim cert.query ++ middle) ++ closing_text cert.claim cert.query)

-- the diagram and what is given beside it, and then the proof
abbrev pub Explains : Certificate → List ℕ → Type 0
Explains cert text = (proof : List ℕ) × Retells cert proof × (text ≡ drawn_text cert.query ++ proof)
