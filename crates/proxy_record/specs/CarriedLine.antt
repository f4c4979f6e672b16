-- The line of a socket that goes over.
use Rattle.std.specs.Prelude.{ℕ, List, [], ◌∷◌, ◌++◌, codes, decimal}
use Rattle.std.specs.List.{concat}
use Rattle.proxy_record.specs.Leaves.{leaf}
use Rattle.proxy_record.specs.declared.payloads.Payloads.{Payloads}
use Rattle.proxy_record.specs.declared.carried_line.Carried.{Carried}
use Rattle.proxy_record.specs.declared.carried_line.Successor.{Successor}
use Rattle.proxy_record.specs.declared.carried_line.Successor.TheVariants.{Unknown, Nobody, Generation}

-- what stands before the rest
abbrev pub carried_head : ℕ → ℕ → ℕ → List ℕ
carried_head conn socket commands =
    concat (codes "{\"carried\": {\"conn\": " ∷ decimal conn ∷ codes ", \"socket\": " ∷ decimal socket ∷ codes ", \"commands\": " ∷ decimal commands ∷ codes ", \"rest\": \"" ∷ [])

-- where the socket went, if it is known
abbrev pub to_text : Successor → List ℕ
to_text Unknown = []
to_text Nobody = codes ", \"to\": null"
to_text (Generation n) = concat (codes ", \"to\": " ∷ decimal n ∷ [])

-- the line of a socket that goes over with these bytes
abbrev pub carried_text : Payloads → Carried → List ℕ → List ℕ
carried_text payloads carried rest =
    carried_head carried.conn carried.socket carried.commands ++ leaf payloads rest ++ codes "\"" ++ to_text carried.to ++ codes "}}\n"
