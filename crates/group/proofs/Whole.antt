-- The law, whole: its four parts stand in files of their own.
use Rattle.group.specs.Law.{Law, Besides, Always}
use Rattle.group.proofs.Agreement.{agreement}
use Rattle.group.proofs.Recovery.{recovery, lasting}
use Rattle.group.proofs.Validity.{validity}
use Rattle.group.proofs.Delivery.{delivery, progress}
use Rattle.group.proofs.Besides.{untroubled, bounded}

pub law_holds : Always Law
law_holds named w₀ h w new lived =
    record {
      agreement = agreement named w₀ h w new lived;
      recovery = recovery named w₀ h w new lived;
      validity = validity named w₀ h w new lived;
      delivery = delivery named w₀ h w new lived;
    }

pub besides_holds : Always Besides
besides_holds named w₀ h w new lived =
    record {
      lasting = lasting named w₀ h w new lived;
      progress = progress named w₀ h w new lived;
      untroubled = untroubled named w₀ h w new lived;
      bounded = bounded named w₀ h w new lived;
    }
