use Rattle.std.proofs.Common.{refl}
use Rattle.md5.specs.Md5.{initial_hash, rounds}
use Rattle.ketama.proofs.short.all_steps.Goals as goal

pub returns : goal.returns
unfolding rounds
returns c =
    let s1 = c.four_steps-v.ensures initial_hash refl in
    let s2 = c.four_steps-v-2.ensures initial_hash s1 in
    let s3 = c.four_steps-v-3.ensures initial_hash s2 in
    let s4 = c.four_steps-v-4.ensures initial_hash s3 in
    let s5 = c.four_steps-v-5.ensures initial_hash s4 in
    let s6 = c.four_steps-v-6.ensures initial_hash s5 in
    let s7 = c.four_steps-v-7.ensures initial_hash s6 in
    let s8 = c.four_steps-v-8.ensures initial_hash s7 in
    let s9 = c.four_steps-v-9.ensures initial_hash s8 in
    let s10 = c.four_steps-v-10.ensures initial_hash s9 in
    let s11 = c.four_steps-v-11.ensures initial_hash s10 in
    let s12 = c.four_steps-v-12.ensures initial_hash s11 in
    let s13 = c.four_steps-v-13.ensures initial_hash s12 in
    let s14 = c.four_steps-v-14.ensures initial_hash s13 in
    let s15 = c.four_steps-v-15.ensures initial_hash s14 in
    c.four_steps.ensures initial_hash s15
