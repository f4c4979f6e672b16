-- Scripts: what a stub does with the requests that come next.
use Rattle.std.specs.Prelude.{◌≡◌, List, [], ◌∷◌}
use Rattle.resp_core.specs.Tree.{Tree}
use Rattle.resp_core.specs.Value.{tree_of}
use Rattle.stub_server.specs.Map.{Map}
use Rattle.stub_server.specs.Table.{answer_of, map_after}
use Rattle.stub_server.specs.declared.script.Act.{Act}
use Rattle.stub_server.specs.declared.script.Act.TheVariants as acts
use Rattle.stub_server.specs.declared.stub.Response.{Response}
use Rattle.stub_server.specs.declared.stub.Response.TheVariants as responses

-- what contracts see of a stub: its map, and the acts that its script has left
pub record StubState : Type 0 where
  pub map : Map
  pub script : List Act

-- what is done with the next request: the first act, and a reply where none is left
abbrev pub act_of : List Act → Act
act_of [] = acts.Reply
act_of (act ∷ script) = act

-- the acts that are left after a request; Hold stays, for all that come
abbrev pub acts_after : List Act → List Act
acts_after [] = []
acts_after (acts.Reply ∷ script) = script
acts_after (acts.Hold ∷ script) = acts.Hold ∷ script
acts_after (acts.Drop ∷ script) = script
acts_after (acts.Garble ∷ script) = script

-- what a request is given by an act: the answer of the table, or what stands for none
abbrev pub IsResponse : Act → Map → Tree → Response → Type 0
IsResponse acts.Reply m t (responses.Answer v) = tree_of v ≡ answer_of m t
IsResponse acts.Hold m t responses.Silence = Unit {0}
IsResponse acts.Drop m t responses.End = Unit {0}
IsResponse acts.Garble m t responses.Garbage = Unit {0}
IsResponse act m t response = ⊥

-- the map after a request: only what is answered changes it
abbrev pub map_by : Act → Map → Tree → Map
map_by acts.Reply m t = map_after m t
map_by acts.Hold m t = m
map_by acts.Drop m t = m
map_by acts.Garble m t = m
