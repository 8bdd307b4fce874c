pub mod PaceLaws
