pub mod CoverLemmas
pub mod MaskLemmas
pub mod StepForms
pub mod EditForms
