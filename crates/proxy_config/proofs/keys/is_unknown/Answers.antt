use Rattle.proxy_config.proofs.KeyNameLemmas.{known, unknown}
use Rattle.proxy_config.specs.Table.{Listen, Hosts, Weights, Workers, ReplyMs, Tags, IntervalMs, BaseMs, MaxMs, MaxPercent, Consecutive, SuccessHosts, RequestVolume, Factor, PanicPercent}
use Rattle.proxy_config.proofs.keys.is_unknown.Goals as goal
use Rattle.proxy_config.proofs.keys.is_unknown.Goals.{in_default, in-listen, in-listen-2, in-listen-3, in-listen-4, in-listen-5, in-listen-6, in-listen-7, in-listen-8, in-listen-9, in-listen-10, in-listen-11, in-listen-12, in-listen-13, in-listen-14, in-listen-15}

pub returns : goal.returns
returns c = elim c.if-matches.branch [
  | in_default w ↦ unknown _ _ w.matches-is w.in_default.not-listen w.in_default.not-hosts w.in_default.not-weights w.in_default.not-workers w.in_default.not-reply_ms w.in_default.not-tags w.in_default.not-interval_ms w.in_default.not-base_ms w.in_default.not-max_ms w.in_default.not-max_percent w.in_default.not-consecutive w.in_default.not-success_hosts w.in_default.not-request_volume w.in_default.not-factor w.in_default.not-panic_percent
  | in-listen w ↦ known Listen _ _ w.in-listen.is-listen w.matches-is
  | in-listen-2 w ↦ known Hosts _ _ w.in-listen.is-hosts w.matches-is
  | in-listen-3 w ↦ known Weights _ _ w.in-listen.is-weights w.matches-is
  | in-listen-4 w ↦ known Workers _ _ w.in-listen.is-workers w.matches-is
  | in-listen-5 w ↦ known ReplyMs _ _ w.in-listen.is-reply_ms w.matches-is
  | in-listen-6 w ↦ known Tags _ _ w.in-listen.is-tags w.matches-is
  | in-listen-7 w ↦ known IntervalMs _ _ w.in-listen.is-interval_ms w.matches-is
  | in-listen-8 w ↦ known BaseMs _ _ w.in-listen.is-base_ms w.matches-is
  | in-listen-9 w ↦ known MaxMs _ _ w.in-listen.is-max_ms w.matches-is
  | in-listen-10 w ↦ known MaxPercent _ _ w.in-listen.is-max_percent w.matches-is
  | in-listen-11 w ↦ known Consecutive _ _ w.in-listen.is-consecutive w.matches-is
  | in-listen-12 w ↦ known SuccessHosts _ _ w.in-listen.is-success_hosts w.matches-is
  | in-listen-13 w ↦ known RequestVolume _ _ w.in-listen.is-request_volume w.matches-is
  | in-listen-14 w ↦ known Factor _ _ w.in-listen.is-factor w.matches-is
  | in-listen-15 w ↦ known PanicPercent _ _ w.in-listen.is-panic_percent w.matches-is
]
