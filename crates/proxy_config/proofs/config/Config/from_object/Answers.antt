use Rattle.std.proofs.Common.{false, [], ◌∷◌, max, length, refl, subst, rules}
use Rattle.std.specs.declared.net.socket_addr.SocketAddr.{SocketAddr}
use Rattle.std.specs.declared.net.socket_addr.SocketAddr.TheVariants.{V4}
use Rattle.serde_json.specs.Find.{get}
use Rattle.serde_json.specs.View.{view}
use Rattle.proxy_config.specs.Values.{Values}
use Rattle.proxy_config.specs.File.{IsFaultOf, MemoryOr}
use Rattle.proxy_config.specs.Table.{Fits, IsNumberOr, AreWeightsOr, name_of, Listen, Hosts, Weights, Workers, ReplyMs, Tags, IntervalMs, BaseMs, MaxMs, MaxPercent, Consecutive, SuccessHosts, RequestVolume, Factor, PanicPercent}
use Rattle.proxy_config.proofs.RingPartLemmas.{ring_parts}
use Rattle.proxy_config.proofs.FirstFaultLemmas.{first_fault, told, told_or_memory, one_number, one_length}
use Rattle.proxy_config.proofs.config.Config.from_object.Goals as goal

-- some address, for what is not read yet
no_address : SocketAddr
no_address = V4 (record { ip = record { octets = 0 ∷ 0 ∷ 0 ∷ 0 ∷ [] }; port = 0 })

pub returns-in_err-listen-clause-refused : goal.returns-in_err-listen-clause-refused
returns-in_err-listen-clause-refused c =
    let file = view c.args.file.now in
    let e = c.in_err-listen.field-0.0 in
    let v : Values = record { listen = no_address; hosts = []; weights = []; workers = 0; reply_ms = 0; tags = false; interval_ms = 0; base_ms = 0; max_ms = 0; max_percent = 0; consecutive = 0; success_hosts = 0; request_volume = 0; factor = 0; panic_percent = 0 } in
    let t : MemoryOr (IsFaultOf file) e = told file Listen e c.in_err-listen.ensures.fault (first_fault file ([]) Listen (Hosts ∷ Weights ∷ Workers ∷ ReplyMs ∷ Tags ∷ IntervalMs ∷ BaseMs ∷ MaxMs ∷ MaxPercent ∷ Consecutive ∷ SuccessHosts ∷ RequestVolume ∷ Factor ∷ PanicPercent ∷ []) v refl tt (λ w fit f. c.in_err-listen.ensures.none w.listen f)) in
    search (rules, t)

pub returns-in_err-hosts-clause-refused : goal.returns-in_err-hosts-clause-refused
returns-in_err-hosts-clause-refused c =
    let file = view c.args.file.now in
    let e = c.in_err-hosts.field-0.0 in
    let v : Values = record { listen = c.in_ok-listen.listen; hosts = []; weights = []; workers = 0; reply_ms = 0; tags = false; interval_ms = 0; base_ms = 0; max_ms = 0; max_percent = 0; consecutive = 0; success_hosts = 0; request_volume = 0; factor = 0; panic_percent = 0 } in
    let t : MemoryOr (IsFaultOf file) e = told_or_memory file Hosts e c.in_err-hosts.ensures.fault (λ other. first_fault file (Listen ∷ []) Hosts (Weights ∷ Workers ∷ ReplyMs ∷ Tags ∷ IntervalMs ∷ BaseMs ∷ MaxMs ∷ MaxPercent ∷ Consecutive ∷ SuccessHosts ∷ RequestVolume ∷ Factor ∷ PanicPercent ∷ []) v refl (c.in_ok-listen.ensures.ok, tt) (λ w fit f. c.in_err-hosts.ensures.none other w.hosts f)) in
    search (rules, t)

pub returns-in_err-weights-clause-refused : goal.returns-in_err-weights-clause-refused
returns-in_err-weights-clause-refused c =
    let file = view c.args.file.now in
    let e = c.in_err-weights.field-0.0 in
    let v : Values = record { listen = c.in_ok-listen.listen; hosts = c.in_ok-hosts.hosts.items; weights = []; workers = 0; reply_ms = 0; tags = false; interval_ms = 0; base_ms = 0; max_ms = 0; max_percent = 0; consecutive = 0; success_hosts = 0; request_volume = 0; factor = 0; panic_percent = 0 } in
    let t : MemoryOr (IsFaultOf file) e = told_or_memory file Weights e c.in_err-weights.ensures.fault (λ other. first_fault file (Listen ∷ Hosts ∷ []) Weights (Workers ∷ ReplyMs ∷ Tags ∷ IntervalMs ∷ BaseMs ∷ MaxMs ∷ MaxPercent ∷ Consecutive ∷ SuccessHosts ∷ RequestVolume ∷ Factor ∷ PanicPercent ∷ []) v refl (c.in_ok-listen.ensures.ok, (c.in_ok-hosts.ensures.ok, tt)) (λ w fit f.
    let same = one_length (get (name_of Hosts) file) w.hosts v.hosts fit.1.0 c.in_ok-hosts.ensures.ok in
    c.in_err-weights.ensures.none other w.weights (rw c.deref.ensures.value (subst (λ n. AreWeightsOr n (get (name_of Weights) file) w.weights) same f)))) in
    search (rules, t)

pub returns-in_err-workers-clause-refused : goal.returns-in_err-workers-clause-refused
returns-in_err-workers-clause-refused c =
    let file = view c.args.file.now in
    let e = c.in_err-workers.field-0.0 in
    let v : Values = record { listen = c.in_ok-listen.listen; hosts = c.in_ok-hosts.hosts.items; weights = c.in_ok-weights.weights.items; workers = 0; reply_ms = 0; tags = false; interval_ms = 0; base_ms = 0; max_ms = 0; max_percent = 0; consecutive = 0; success_hosts = 0; request_volume = 0; factor = 0; panic_percent = 0 } in
    let w_fit : Fits Weights (get (name_of Weights) file) v = rw (← c.deref.ensures.value) (c.in_ok-weights.ensures.ok) in
    let t : MemoryOr (IsFaultOf file) e = told file Workers e c.in_err-workers.ensures.fault (first_fault file (Listen ∷ Hosts ∷ Weights ∷ []) Workers (ReplyMs ∷ Tags ∷ IntervalMs ∷ BaseMs ∷ MaxMs ∷ MaxPercent ∷ Consecutive ∷ SuccessHosts ∷ RequestVolume ∷ Factor ∷ PanicPercent ∷ []) v refl (c.in_ok-listen.ensures.ok, (c.in_ok-hosts.ensures.ok, (w_fit, tt))) (λ w fit f. c.in_err-workers.ensures.none w.workers f)) in
    search (rules, t)

pub returns-in_err-reply_ms-clause-refused : goal.returns-in_err-reply_ms-clause-refused
returns-in_err-reply_ms-clause-refused c =
    let file = view c.args.file.now in
    let e = c.in_err-reply_ms.field-0.0 in
    let v : Values = record { listen = c.in_ok-listen.listen; hosts = c.in_ok-hosts.hosts.items; weights = c.in_ok-weights.weights.items; workers = c.in_ok-workers.workers; reply_ms = 0; tags = false; interval_ms = 0; base_ms = 0; max_ms = 0; max_percent = 0; consecutive = 0; success_hosts = 0; request_volume = 0; factor = 0; panic_percent = 0 } in
    let w_fit : Fits Weights (get (name_of Weights) file) v = rw (← c.deref.ensures.value) (c.in_ok-weights.ensures.ok) in
    let t : MemoryOr (IsFaultOf file) e = told file ReplyMs e c.in_err-reply_ms.ensures.fault (first_fault file (Listen ∷ Hosts ∷ Weights ∷ Workers ∷ []) ReplyMs (Tags ∷ IntervalMs ∷ BaseMs ∷ MaxMs ∷ MaxPercent ∷ Consecutive ∷ SuccessHosts ∷ RequestVolume ∷ Factor ∷ PanicPercent ∷ []) v refl (c.in_ok-listen.ensures.ok, (c.in_ok-hosts.ensures.ok, (w_fit, (c.in_ok-workers.ensures.ok, tt)))) (λ w fit f. c.in_err-reply_ms.ensures.none w.reply_ms f)) in
    search (rules, t)

pub returns-in_err-tags-clause-refused : goal.returns-in_err-tags-clause-refused
returns-in_err-tags-clause-refused c =
    let file = view c.args.file.now in
    let e = c.in_err-tags.field-0.0 in
    let v : Values = record { listen = c.in_ok-listen.listen; hosts = c.in_ok-hosts.hosts.items; weights = c.in_ok-weights.weights.items; workers = c.in_ok-workers.workers; reply_ms = c.in_ok-reply_ms.reply_ms; tags = false; interval_ms = 0; base_ms = 0; max_ms = 0; max_percent = 0; consecutive = 0; success_hosts = 0; request_volume = 0; factor = 0; panic_percent = 0 } in
    let w_fit : Fits Weights (get (name_of Weights) file) v = rw (← c.deref.ensures.value) (c.in_ok-weights.ensures.ok) in
    let t : MemoryOr (IsFaultOf file) e = told file Tags e c.in_err-tags.ensures.fault (first_fault file (Listen ∷ Hosts ∷ Weights ∷ Workers ∷ ReplyMs ∷ []) Tags (IntervalMs ∷ BaseMs ∷ MaxMs ∷ MaxPercent ∷ Consecutive ∷ SuccessHosts ∷ RequestVolume ∷ Factor ∷ PanicPercent ∷ []) v refl (c.in_ok-listen.ensures.ok, (c.in_ok-hosts.ensures.ok, (w_fit, (c.in_ok-workers.ensures.ok, (c.in_ok-reply_ms.ensures.ok, tt))))) (λ w fit f. c.in_err-tags.ensures.none w.tags f)) in
    search (rules, t)

pub returns-in_err-interval_ms-clause-refused : goal.returns-in_err-interval_ms-clause-refused
returns-in_err-interval_ms-clause-refused c =
    let file = view c.args.file.now in
    let e = c.in_err-interval_ms.field-0.0 in
    let v : Values = record { listen = c.in_ok-listen.listen; hosts = c.in_ok-hosts.hosts.items; weights = c.in_ok-weights.weights.items; workers = c.in_ok-workers.workers; reply_ms = c.in_ok-reply_ms.reply_ms; tags = c.in_ok-tags.tags; interval_ms = 0; base_ms = 0; max_ms = 0; max_percent = 0; consecutive = 0; success_hosts = 0; request_volume = 0; factor = 0; panic_percent = 0 } in
    let w_fit : Fits Weights (get (name_of Weights) file) v = rw (← c.deref.ensures.value) (c.in_ok-weights.ensures.ok) in
    let t : MemoryOr (IsFaultOf file) e = told file IntervalMs e c.in_err-interval_ms.ensures.fault (first_fault file (Listen ∷ Hosts ∷ Weights ∷ Workers ∷ ReplyMs ∷ Tags ∷ []) IntervalMs (BaseMs ∷ MaxMs ∷ MaxPercent ∷ Consecutive ∷ SuccessHosts ∷ RequestVolume ∷ Factor ∷ PanicPercent ∷ []) v refl (c.in_ok-listen.ensures.ok, (c.in_ok-hosts.ensures.ok, (w_fit, (c.in_ok-workers.ensures.ok, (c.in_ok-reply_ms.ensures.ok, (c.in_ok-tags.ensures.ok, tt)))))) (λ w fit f. c.in_err-interval_ms.ensures.none w.interval_ms f)) in
    search (rules, t)

pub returns-in_err-base_ms-clause-refused : goal.returns-in_err-base_ms-clause-refused
returns-in_err-base_ms-clause-refused c =
    let file = view c.args.file.now in
    let e = c.in_err-base_ms.field-0.0 in
    let v : Values = record { listen = c.in_ok-listen.listen; hosts = c.in_ok-hosts.hosts.items; weights = c.in_ok-weights.weights.items; workers = c.in_ok-workers.workers; reply_ms = c.in_ok-reply_ms.reply_ms; tags = c.in_ok-tags.tags; interval_ms = c.in_ok-interval_ms.interval_ms; base_ms = 0; max_ms = 0; max_percent = 0; consecutive = 0; success_hosts = 0; request_volume = 0; factor = 0; panic_percent = 0 } in
    let w_fit : Fits Weights (get (name_of Weights) file) v = rw (← c.deref.ensures.value) (c.in_ok-weights.ensures.ok) in
    let t : MemoryOr (IsFaultOf file) e = told file BaseMs e c.in_err-base_ms.ensures.fault (first_fault file (Listen ∷ Hosts ∷ Weights ∷ Workers ∷ ReplyMs ∷ Tags ∷ IntervalMs ∷ []) BaseMs (MaxMs ∷ MaxPercent ∷ Consecutive ∷ SuccessHosts ∷ RequestVolume ∷ Factor ∷ PanicPercent ∷ []) v refl (c.in_ok-listen.ensures.ok, (c.in_ok-hosts.ensures.ok, (w_fit, (c.in_ok-workers.ensures.ok, (c.in_ok-reply_ms.ensures.ok, (c.in_ok-tags.ensures.ok, (c.in_ok-interval_ms.ensures.ok, tt))))))) (λ w fit f. c.in_err-base_ms.ensures.none w.base_ms f)) in
    search (rules, t)

pub returns-in_err-max_ms-clause-refused : goal.returns-in_err-max_ms-clause-refused
returns-in_err-max_ms-clause-refused c =
    let file = view c.args.file.now in
    let e = c.in_err-max_ms.field-0.0 in
    let v : Values = record { listen = c.in_ok-listen.listen; hosts = c.in_ok-hosts.hosts.items; weights = c.in_ok-weights.weights.items; workers = c.in_ok-workers.workers; reply_ms = c.in_ok-reply_ms.reply_ms; tags = c.in_ok-tags.tags; interval_ms = c.in_ok-interval_ms.interval_ms; base_ms = c.in_ok-base_ms.base_ms; max_ms = 0; max_percent = 0; consecutive = 0; success_hosts = 0; request_volume = 0; factor = 0; panic_percent = 0 } in
    let w_fit : Fits Weights (get (name_of Weights) file) v = rw (← c.deref.ensures.value) (c.in_ok-weights.ensures.ok) in
    let t : MemoryOr (IsFaultOf file) e = told file MaxMs e c.in_err-max_ms.ensures.fault (first_fault file (Listen ∷ Hosts ∷ Weights ∷ Workers ∷ ReplyMs ∷ Tags ∷ IntervalMs ∷ BaseMs ∷ []) MaxMs (MaxPercent ∷ Consecutive ∷ SuccessHosts ∷ RequestVolume ∷ Factor ∷ PanicPercent ∷ []) v refl (c.in_ok-listen.ensures.ok, (c.in_ok-hosts.ensures.ok, (w_fit, (c.in_ok-workers.ensures.ok, (c.in_ok-reply_ms.ensures.ok, (c.in_ok-tags.ensures.ok, (c.in_ok-interval_ms.ensures.ok, (c.in_ok-base_ms.ensures.ok, tt)))))))) (λ w fit f.
    let (_, (_, (_, (_, (_, (_, (_, (base_fits, _)))))))) = fit in
    let same = one_number 30000 1 3600000 (get (name_of BaseMs) file) w.base_ms v.base_ms base_fits c.in_ok-base_ms.ensures.ok in
    c.in_err-max_ms.ensures.none w.max_ms (subst (λ b. IsNumberOr (max b 300000) b 86400000 (get (name_of MaxMs) file) w.max_ms) same f))) in
    search (rules, t)

pub returns-in_err-max_percent-clause-refused : goal.returns-in_err-max_percent-clause-refused
returns-in_err-max_percent-clause-refused c =
    let file = view c.args.file.now in
    let e = c.in_err-max_percent.field-0.0 in
    let v : Values = record { listen = c.in_ok-listen.listen; hosts = c.in_ok-hosts.hosts.items; weights = c.in_ok-weights.weights.items; workers = c.in_ok-workers.workers; reply_ms = c.in_ok-reply_ms.reply_ms; tags = c.in_ok-tags.tags; interval_ms = c.in_ok-interval_ms.interval_ms; base_ms = c.in_ok-base_ms.base_ms; max_ms = c.in_ok-max_ms.max_ms; max_percent = 0; consecutive = 0; success_hosts = 0; request_volume = 0; factor = 0; panic_percent = 0 } in
    let w_fit : Fits Weights (get (name_of Weights) file) v = rw (← c.deref.ensures.value) (c.in_ok-weights.ensures.ok) in
    let m : Fits MaxMs (get (name_of MaxMs) file) v = c.in_ok-max_ms.ensures.ok in
    let t : MemoryOr (IsFaultOf file) e = told file MaxPercent e c.in_err-max_percent.ensures.fault (first_fault file (Listen ∷ Hosts ∷ Weights ∷ Workers ∷ ReplyMs ∷ Tags ∷ IntervalMs ∷ BaseMs ∷ MaxMs ∷ []) MaxPercent (Consecutive ∷ SuccessHosts ∷ RequestVolume ∷ Factor ∷ PanicPercent ∷ []) v refl (c.in_ok-listen.ensures.ok, (c.in_ok-hosts.ensures.ok, (w_fit, (c.in_ok-workers.ensures.ok, (c.in_ok-reply_ms.ensures.ok, (c.in_ok-tags.ensures.ok, (c.in_ok-interval_ms.ensures.ok, (c.in_ok-base_ms.ensures.ok, (m, tt))))))))) (λ w fit f. c.in_err-max_percent.ensures.none w.max_percent f)) in
    search (rules, t)

pub returns-in_err-consecutive-clause-refused : goal.returns-in_err-consecutive-clause-refused
returns-in_err-consecutive-clause-refused c =
    let file = view c.args.file.now in
    let e = c.in_err-consecutive.field-0.0 in
    let v : Values = record { listen = c.in_ok-listen.listen; hosts = c.in_ok-hosts.hosts.items; weights = c.in_ok-weights.weights.items; workers = c.in_ok-workers.workers; reply_ms = c.in_ok-reply_ms.reply_ms; tags = c.in_ok-tags.tags; interval_ms = c.in_ok-interval_ms.interval_ms; base_ms = c.in_ok-base_ms.base_ms; max_ms = c.in_ok-max_ms.max_ms; max_percent = c.in_ok-max_percent.max_percent; consecutive = 0; success_hosts = 0; request_volume = 0; factor = 0; panic_percent = 0 } in
    let w_fit : Fits Weights (get (name_of Weights) file) v = rw (← c.deref.ensures.value) (c.in_ok-weights.ensures.ok) in
    let m : Fits MaxMs (get (name_of MaxMs) file) v = c.in_ok-max_ms.ensures.ok in
    let t : MemoryOr (IsFaultOf file) e = told file Consecutive e c.in_err-consecutive.ensures.fault (first_fault file (Listen ∷ Hosts ∷ Weights ∷ Workers ∷ ReplyMs ∷ Tags ∷ IntervalMs ∷ BaseMs ∷ MaxMs ∷ MaxPercent ∷ []) Consecutive (SuccessHosts ∷ RequestVolume ∷ Factor ∷ PanicPercent ∷ []) v refl (c.in_ok-listen.ensures.ok, (c.in_ok-hosts.ensures.ok, (w_fit, (c.in_ok-workers.ensures.ok, (c.in_ok-reply_ms.ensures.ok, (c.in_ok-tags.ensures.ok, (c.in_ok-interval_ms.ensures.ok, (c.in_ok-base_ms.ensures.ok, (m, (c.in_ok-max_percent.ensures.ok, tt)))))))))) (λ w fit f. c.in_err-consecutive.ensures.none w.consecutive f)) in
    search (rules, t)

pub returns-in_err-success_hosts-clause-refused : goal.returns-in_err-success_hosts-clause-refused
returns-in_err-success_hosts-clause-refused c =
    let file = view c.args.file.now in
    let e = c.in_err-success_hosts.field-0.0 in
    let v : Values = record { listen = c.in_ok-listen.listen; hosts = c.in_ok-hosts.hosts.items; weights = c.in_ok-weights.weights.items; workers = c.in_ok-workers.workers; reply_ms = c.in_ok-reply_ms.reply_ms; tags = c.in_ok-tags.tags; interval_ms = c.in_ok-interval_ms.interval_ms; base_ms = c.in_ok-base_ms.base_ms; max_ms = c.in_ok-max_ms.max_ms; max_percent = c.in_ok-max_percent.max_percent; consecutive = c.in_ok-consecutive.consecutive; success_hosts = 0; request_volume = 0; factor = 0; panic_percent = 0 } in
    let w_fit : Fits Weights (get (name_of Weights) file) v = rw (← c.deref.ensures.value) (c.in_ok-weights.ensures.ok) in
    let m : Fits MaxMs (get (name_of MaxMs) file) v = c.in_ok-max_ms.ensures.ok in
    let t : MemoryOr (IsFaultOf file) e = told file SuccessHosts e c.in_err-success_hosts.ensures.fault (first_fault file (Listen ∷ Hosts ∷ Weights ∷ Workers ∷ ReplyMs ∷ Tags ∷ IntervalMs ∷ BaseMs ∷ MaxMs ∷ MaxPercent ∷ Consecutive ∷ []) SuccessHosts (RequestVolume ∷ Factor ∷ PanicPercent ∷ []) v refl (c.in_ok-listen.ensures.ok, (c.in_ok-hosts.ensures.ok, (w_fit, (c.in_ok-workers.ensures.ok, (c.in_ok-reply_ms.ensures.ok, (c.in_ok-tags.ensures.ok, (c.in_ok-interval_ms.ensures.ok, (c.in_ok-base_ms.ensures.ok, (m, (c.in_ok-max_percent.ensures.ok, (c.in_ok-consecutive.ensures.ok, tt))))))))))) (λ w fit f. c.in_err-success_hosts.ensures.none w.success_hosts f)) in
    search (rules, t)

pub returns-in_err-request_volume-clause-refused : goal.returns-in_err-request_volume-clause-refused
returns-in_err-request_volume-clause-refused c =
    let file = view c.args.file.now in
    let e = c.in_err-request_volume.field-0.0 in
    let v : Values = record { listen = c.in_ok-listen.listen; hosts = c.in_ok-hosts.hosts.items; weights = c.in_ok-weights.weights.items; workers = c.in_ok-workers.workers; reply_ms = c.in_ok-reply_ms.reply_ms; tags = c.in_ok-tags.tags; interval_ms = c.in_ok-interval_ms.interval_ms; base_ms = c.in_ok-base_ms.base_ms; max_ms = c.in_ok-max_ms.max_ms; max_percent = c.in_ok-max_percent.max_percent; consecutive = c.in_ok-consecutive.consecutive; success_hosts = c.in_ok-success_hosts.success_hosts; request_volume = 0; factor = 0; panic_percent = 0 } in
    let w_fit : Fits Weights (get (name_of Weights) file) v = rw (← c.deref.ensures.value) (c.in_ok-weights.ensures.ok) in
    let m : Fits MaxMs (get (name_of MaxMs) file) v = c.in_ok-max_ms.ensures.ok in
    let t : MemoryOr (IsFaultOf file) e = told file RequestVolume e c.in_err-request_volume.ensures.fault (first_fault file (Listen ∷ Hosts ∷ Weights ∷ Workers ∷ ReplyMs ∷ Tags ∷ IntervalMs ∷ BaseMs ∷ MaxMs ∷ MaxPercent ∷ Consecutive ∷ SuccessHosts ∷ []) RequestVolume (Factor ∷ PanicPercent ∷ []) v refl (c.in_ok-listen.ensures.ok, (c.in_ok-hosts.ensures.ok, (w_fit, (c.in_ok-workers.ensures.ok, (c.in_ok-reply_ms.ensures.ok, (c.in_ok-tags.ensures.ok, (c.in_ok-interval_ms.ensures.ok, (c.in_ok-base_ms.ensures.ok, (m, (c.in_ok-max_percent.ensures.ok, (c.in_ok-consecutive.ensures.ok, (c.in_ok-success_hosts.ensures.ok, tt)))))))))))) (λ w fit f. c.in_err-request_volume.ensures.none w.request_volume f)) in
    search (rules, t)

pub returns-in_err-factor-clause-refused : goal.returns-in_err-factor-clause-refused
returns-in_err-factor-clause-refused c =
    let file = view c.args.file.now in
    let e = c.in_err-factor.field-0.0 in
    let v : Values = record { listen = c.in_ok-listen.listen; hosts = c.in_ok-hosts.hosts.items; weights = c.in_ok-weights.weights.items; workers = c.in_ok-workers.workers; reply_ms = c.in_ok-reply_ms.reply_ms; tags = c.in_ok-tags.tags; interval_ms = c.in_ok-interval_ms.interval_ms; base_ms = c.in_ok-base_ms.base_ms; max_ms = c.in_ok-max_ms.max_ms; max_percent = c.in_ok-max_percent.max_percent; consecutive = c.in_ok-consecutive.consecutive; success_hosts = c.in_ok-success_hosts.success_hosts; request_volume = c.in_ok-request_volume.request_volume; factor = 0; panic_percent = 0 } in
    let w_fit : Fits Weights (get (name_of Weights) file) v = rw (← c.deref.ensures.value) (c.in_ok-weights.ensures.ok) in
    let m : Fits MaxMs (get (name_of MaxMs) file) v = c.in_ok-max_ms.ensures.ok in
    let t : MemoryOr (IsFaultOf file) e = told file Factor e c.in_err-factor.ensures.fault (first_fault file (Listen ∷ Hosts ∷ Weights ∷ Workers ∷ ReplyMs ∷ Tags ∷ IntervalMs ∷ BaseMs ∷ MaxMs ∷ MaxPercent ∷ Consecutive ∷ SuccessHosts ∷ RequestVolume ∷ []) Factor (PanicPercent ∷ []) v refl (c.in_ok-listen.ensures.ok, (c.in_ok-hosts.ensures.ok, (w_fit, (c.in_ok-workers.ensures.ok, (c.in_ok-reply_ms.ensures.ok, (c.in_ok-tags.ensures.ok, (c.in_ok-interval_ms.ensures.ok, (c.in_ok-base_ms.ensures.ok, (m, (c.in_ok-max_percent.ensures.ok, (c.in_ok-consecutive.ensures.ok, (c.in_ok-success_hosts.ensures.ok, (c.in_ok-request_volume.ensures.ok, tt))))))))))))) (λ w fit f. c.in_err-factor.ensures.none w.factor f)) in
    search (rules, t)

pub returns-in_err-panic_percent-clause-refused : goal.returns-in_err-panic_percent-clause-refused
returns-in_err-panic_percent-clause-refused c =
    let file = view c.args.file.now in
    let e = c.in_err-panic_percent.field-0.0 in
    let v : Values = record { listen = c.in_ok-listen.listen; hosts = c.in_ok-hosts.hosts.items; weights = c.in_ok-weights.weights.items; workers = c.in_ok-workers.workers; reply_ms = c.in_ok-reply_ms.reply_ms; tags = c.in_ok-tags.tags; interval_ms = c.in_ok-interval_ms.interval_ms; base_ms = c.in_ok-base_ms.base_ms; max_ms = c.in_ok-max_ms.max_ms; max_percent = c.in_ok-max_percent.max_percent; consecutive = c.in_ok-consecutive.consecutive; success_hosts = c.in_ok-success_hosts.success_hosts; request_volume = c.in_ok-request_volume.request_volume; factor = c.in_ok-factor.factor; panic_percent = 0 } in
    let w_fit : Fits Weights (get (name_of Weights) file) v = rw (← c.deref.ensures.value) (c.in_ok-weights.ensures.ok) in
    let m : Fits MaxMs (get (name_of MaxMs) file) v = c.in_ok-max_ms.ensures.ok in
    let t : MemoryOr (IsFaultOf file) e = told file PanicPercent e c.in_err-panic_percent.ensures.fault (first_fault file (Listen ∷ Hosts ∷ Weights ∷ Workers ∷ ReplyMs ∷ Tags ∷ IntervalMs ∷ BaseMs ∷ MaxMs ∷ MaxPercent ∷ Consecutive ∷ SuccessHosts ∷ RequestVolume ∷ Factor ∷ []) PanicPercent ([]) v refl (c.in_ok-listen.ensures.ok, (c.in_ok-hosts.ensures.ok, (w_fit, (c.in_ok-workers.ensures.ok, (c.in_ok-reply_ms.ensures.ok, (c.in_ok-tags.ensures.ok, (c.in_ok-interval_ms.ensures.ok, (c.in_ok-base_ms.ensures.ok, (m, (c.in_ok-max_percent.ensures.ok, (c.in_ok-consecutive.ensures.ok, (c.in_ok-success_hosts.ensures.ok, (c.in_ok-request_volume.ensures.ok, (c.in_ok-factor.ensures.ok, tt)))))))))))))) (λ w fit f. c.in_err-panic_percent.ensures.none w.panic_percent f)) in
    search (rules, t)

pub invariant_of-result : goal.invariant_of-result
invariant_of-result c =
    let weighed : AreWeightsOr (length c.in_ok-hosts.hosts.items) (get (name_of Weights) (view c.args.file.now)) c.in_ok-weights.weights.items = rw (← c.deref.ensures.value) (c.in_ok-weights.ensures.ok) in
    record { parts = ∣ ring_parts _ _ _ _ c.in_ok-hosts.ensures.ok weighed ∣₁ }
