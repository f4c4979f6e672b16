use Rattle.std.proofs.Common.{rules, sym, ◌∙◌}
use Rattle.stub_server.proofs.CommandSearchLemmas.{unnamed, first_with_name, none_with_name}
use Rattle.stub_server.proofs.command.command_among.Goals as goal

pub returns-then-eq_ignore_ascii_case : goal.returns-then-eq_ignore_ascii_case
returns-then-eq_ignore_ascii_case c =
    sym (first_with_name c.args.named.now c.args.name.now c.loop-known.known-index unnamed c.loop-known-test.true (search rules)) ∙ c.loop-known.invariant

pub loop-known-preserved : goal.loop-known-preserved
loop-known-preserved c =
    sym (none_with_name c.args.named.now c.args.name.now c.loop-known.known-index unnamed c.loop-known-test.true (search rules)) ∙ c.loop-known.invariant
