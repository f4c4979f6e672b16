use Rattle.std.proofs.Common.{◌≡◌, ◌≤◌, ◌++◌, ◌∷◌, [], List, AllPairs, ◌≢◌, Some, length, get_or, sym, ◌∙◌, add-one, arith, rules}
use Rattle.std.proofs.lemmas.Bool.Decides.{nat_tests}
use Rattle.std.proofs.lemmas.List.{take_all}
use Rattle.serde_json.specs.Data.{array}
use Rattle.proxy_config.specs.declared.error.ConfigError.TheVariants.{Memory}
use Rattle.std.specs.List.{AllZip}
use Rattle.serde_json.specs.View.{items_view}
use Rattle.proxy_config.specs.declared.config.Host.{Host}
use Rattle.proxy_config.specs.Table.{AreHosts, IsHost, items_of, host_data}
use Rattle.proxy_config.specs.Refusals.{FirstAre}
use Rattle.proxy_config.proofs.EntryLemmas.{Gives, all_err, gives_more, gives_written, gives_length, gives_good, written_length, none_written, names_same}
use Rattle.proxy_config.proofs.hosts.hosts_in.Goals as goal
use Rattle.proxy_config.proofs.hosts.hosts_in.Goals.{then-is_empty-via-then-is_empty, then-is_empty-via-else-is_empty+then-entries-gt-MAX_HOSTS}

pub returns-then-is_empty-clause-none : goal.returns-then-is_empty-clause-none
returns-then-is_empty-clause-none c = λ _ hosts are.
    let e = are.written in
    let n : items_view c.args.entries.now ≡ items_of host_data hosts = cc in
    let l = written_length host_data IsHost c.args.entries.now hosts n in
    let some = are.some in
    let few = are.few in
    elim c.then-is_empty.branch [
      | then-is_empty-via-then-is_empty w ↦ grind (arith, nat_tests)
      | then-is_empty-via-else-is_empty+then-entries-gt-MAX_HOSTS w ↦ grind (arith, nat_tests)
    ]

pub returns-in_err-host-clause-none : goal.returns-in_err-host-clause-none
returns-in_err-host-clause-none c =
    let none : (c.in_err-host.field-0.0 ≡ Memory → ⊥) → (hosts : List Host) → AreHosts (Some (array (items_view c.args.entries.now))) hosts → ⊥ = λ other hosts are.
    let e = are.written in
    let n : items_view c.args.entries.now ≡ items_of host_data hosts = cc in
    none_written host_data IsHost c.args.entries.now hosts c.loop-entry.entry-index c.entry-item.result n are.each c.loop-entry-test.true c.entry-item.is (c.in_err-host.ensures.none other) in
    search (rules, none)

pub returns-in_err-host-clause-memory : goal.returns-in_err-host-clause-memory
returns-in_err-host-clause-memory c =
    let few : length c.args.entries.now ≤ 64 = grind (arith, nat_tests) in
    let first : c.in_err-host.field-0.0 ≡ Memory → (length c.args.entries.now ≤ 64) × FirstAre host_data IsHost c.args.entries.now = λ memory.
    let (h, written, good) = c.in_err-host.ensures.memory memory in
    let here : Gives host_data IsHost (get_or c.args.entries.now c.loop-entry.entry-index c.entry-item.result) h = rw (← c.entry-item.is) (written, good) in
    let given = gives_more host_data IsHost c.args.entries.now c.loop-entry.hosts.items c.loop-entry.entry-index c.entry-item.result h c.loop-entry.invariant c.loop-entry-test.true here in
    (few, (c.loop-entry.entry-index, c.loop-entry.hosts.items ++ h ∷ [], c.loop-entry-test.true, rw add-one given)) in
    search (rules, first)

pub returns-in_err-push-clause-memory : goal.returns-in_err-push-clause-memory
returns-in_err-push-clause-memory c =
    let few : length c.args.entries.now ≤ 64 = grind (arith, nat_tests) in
    let here : Gives host_data IsHost (get_or c.args.entries.now c.loop-entry.entry-index c.entry-item.result) c.in_ok-host.field-0 = rw (← c.entry-item.is) (c.in_ok-host.ensures.ok) in
    let given = gives_more host_data IsHost c.args.entries.now c.loop-entry.hosts.items c.loop-entry.entry-index c.entry-item.result c.in_ok-host.field-0 c.loop-entry.invariant c.loop-entry-test.true here in
    all_err _ c.from_residual-in_err-push.result (λ e memory. (few, (c.loop-entry.entry-index, c.loop-entry.hosts.items ++ c.in_ok-host.field-0 ∷ [], c.loop-entry-test.true, rw add-one given)))

pub loop-entry-preserved : goal.loop-entry-preserved
loop-entry-preserved c =
    let g : Gives host_data IsHost (get_or c.args.entries.now c.loop-entry.entry-index c.entry-item.result) c.in_ok-host.field-0 = rw (← c.entry-item.is) (c.in_ok-host.ensures.ok) in
    rw (add-one, c.in_ok-push.ensures.items) (gives_more host_data IsHost _ _ _ c.entry-item.result _ c.loop-entry.invariant c.loop-entry-test.true g)

pub returns-then-not-have_names_of_their_own-clause-none :
    goal.returns-then-not-have_names_of_their_own-clause-none
returns-then-not-have_names_of_their_own-clause-none c = λ _ hosts are.
    let es = c.args.entries.now in
    let hs = c.loop-entry.hosts.items in
    let i = c.loop-entry.invariant in
    let all : AllZip (Gives host_data IsHost) es hs = rw (take_all c.loop-entry.entry-index es c.loop-entry-test.false) at i in
    let e = are.written in
    let n : items_view es ≡ items_of host_data hosts = cc in
    let m = gives_written host_data IsHost es hs all in
    let same : items_of host_data hs ≡ items_of host_data hosts = cc in
    let l : length hs ≡ length hosts = sym (gives_length host_data IsHost es hs all) ∙ written_length host_data IsHost es hosts n in
    let distinct : AllPairs (λ (a b : Host). a.name ≢ b.name) hs = λ j k d below within equal.
    are.distinct j k d below (omega arith) (sym (names_same hs hosts j d same) ∙ equal ∙ names_same hs hosts k d same) in
    let d : AllPairs (λ (a b : Host). a.name ≢ b.name) c.deref.result.now = rw c.deref.ensures.value distinct in
    let t = c.have_names_of_their_own.ensures.1 d in
    let f = c.if-not-have_names_of_their_own.true in
    cc

pub returns-clause-ok : goal.returns-clause-ok
returns-clause-ok c =
    let es = c.args.entries.now in
    let hs = c.loop-entry.hosts.items in
    let i = c.loop-entry.invariant in
    let all : AllZip (Gives host_data IsHost) es hs = rw (take_all c.loop-entry.entry-index es c.loop-entry-test.false) at i in
    let m = gives_written host_data IsHost es hs all in
    let l = gives_length host_data IsHost es hs all in
    let d = c.have_names_of_their_own.ensures.0 (search rules) in
    record {
      written = cc;
      some = grind (arith, nat_tests);
      few = grind (arith, nat_tests);
      each = gives_good host_data IsHost es hs all;
      distinct = rw (← c.deref.ensures.value) d;
    }
