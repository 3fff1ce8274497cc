use Rattle.std.proofs.Common.{ℕ, List, ◌++◌, length, drop, replicate, ap, subst, sym}
use Rattle.wf_row.specs.Bytes.{AreBytes}
use Rattle.wf_row.proofs.Rows.{padded-Bytes}
use Rattle.wf_row.proofs.loading.padded_mask.Goals as goal

pub returns-clause-value : goal.returns-clause-value
returns-clause-value c = ap (λ (xs : List ℕ). xs ++ drop (length c.args.bytes.now) (replicate 8 0)) c.copy_from_slice.ensures.after

pub returns-clause-bytes : goal.returns-clause-bytes
returns-clause-bytes c =
    subst (λ (xs : List ℕ). AreBytes 8 (xs ++ drop (length c.args.bytes.now) (replicate 8 0))) (sym c.copy_from_slice.ensures.after)
    (padded-Bytes 8 c.args.bytes.now c.requires c.type_inv.bytes)
