use Rattle.std.proofs.Common.{rules, ◌≡◌, ◌∙◌, true, false, sym}
use Rattle.proxy_engines.proofs.client.ClientEngine.fetch_if_none.Goals as goal

pub returns-then-is_none-clause-looks : goal.returns-then-is_none-clause-looks
returns-then-is_none-clause-looks g c =
    record {
      keeps = search rules;
      ends = c.fetch.ensures.fetches.ends;
      last = λ drained.
          let no : true ≡ false = sym drained ∙ c.fetch.ensures.fetches.keeps.0 in
          absurd cc;
      next = search rules;
      err = search rules;
    }
